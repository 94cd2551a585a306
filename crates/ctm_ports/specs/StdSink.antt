-- What a sink over a writer of std holds.
use Rattle.std.specs.Prelude.{ℕ}
use Rattle.ctm_ports.specs.declared.std_sink.StdSink.{StdSink}

abbrev pub writer_of : {W : Type 0} → StdSink W → W
writer_of sink = sink.inner

-- how many of its writes failed
abbrev pub writer_faults : {W : Type 0} → StdSink W → ℕ
writer_faults sink = sink.faults
