use Rattle.std.proofs.Common.{◌≡◌, ◌<◌, ◌-◌, ◌∙◌, [], Some, arith, false, length, subst, sym}
use Rattle.std.specs.Prelude.{bytes_eq, slice_index}
use Rattle.std.specs.Cmp.Lexicographic.{bytes_decides}
use Rattle.std.proofs.lemmas.List.{get_or-map, get_or_read_under}
use Rattle.network_file.specs.Cells.{cell_named, name_at}
use Rattle.network_file.specs.NameIndexing.{IsChainEnd, bucket_of}
use Rattle.network_file.proofs.NameLemmas.{cell_named-none, passed-earlier}
use Rattle.network_file.proofs.name_index.NameIndex.find.Goals as goal

pub returns-then-eq : goal.returns-then-eq
returns-then-eq c =
    let cells = c.args.cells.now in
    let cell = c.loop-end.end - 1 in
    let within : cell < length cells = omega arith in
    let read : name_at cells cell ≡ c.bytes.result.now = get_or-map (λ c. c.name) cells cell c.index-cells-cell.result [] within ∙ sym c.bytes.ensures.bytes in
    let same : name_at cells cell ≡ c.args.name.now = read ∙ (bytes_decides c.bytes.result.now c.args.name.now).0 (sym c.eq.ensures ∙ c.if-eq.true) in
    sym (subst (λ n. cell_named cells n ≡ Some cell) same (c.requires.apart cell within))

pub loop-end-preserved : goal.loop-end-preserved
loop-end-preserved c =
    let cells = c.args.cells.now in
    let cell = c.loop-end.end - 1 in
    let name = c.args.name.now in
    let more = c.index-end-in-loop-end.result.now in
    let bucket = bucket_of c.args.self.now.buckets in
    let within : cell < length cells = omega arith in
    let read : name_at cells cell ≡ c.bytes.result.now = get_or-map (λ c. c.name) cells cell c.index-cells-cell.result [] within ∙ sym c.bytes.ensures.bytes in
    let other : bytes_eq (name_at cells cell) name ≡ false = rw read (sym c.eq.ensures ∙ c.if-eq.false) in
    let next : more ≡ slice_index c.args.self.now.earlier.items cell =
    get_or_read_under c.args.self.now.earlier.items cell (length cells) more 0 c.index-end-in-loop-end.ensures within (sym c.requires.one_each) in
    let chain : IsChainEnd (λ i. bucket (name_at cells i)) cell (bucket (name_at cells cell)) more = rw next (c.requires.earlier cell within) in
    let own = c.loop-end.invariant.own c.loop-end-test.true in
    record {
      within = omega (arith, chain.within);
      own = λ h. chain.own h ∙ own;
      passed = passed-earlier bucket (name_at cells) (length cells) c.loop-end.end more name c.loop-end-test.true own chain other c.loop-end.invariant.passed;
    }

pub returns : goal.returns
returns c = sym (cell_named-none c.args.cells.now c.args.name.now (λ i h. c.loop-end.invariant.passed i (omega arith) h))
