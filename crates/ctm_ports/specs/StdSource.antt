-- What a source over a reader of std holds.
use Rattle.std.specs.Prelude.{ℕ}
use Rattle.ctm_ports.specs.declared.std_source.StdSource.{StdSource}

abbrev pub reader_of : {R : Type 0} → StdSource R → R
reader_of source = source.inner

-- how many of its reads failed
abbrev pub reader_faults : {R : Type 0} → StdSource R → ℕ
reader_faults source = source.faults
