use Rattle.std.proofs.Common.{◌≡◌, ◌∙◌, [], List, ℕ, arith, length, ap}
use Rattle.std.specs.Prelude.{Result}
use Rattle.network_file.specs.Draft.{Draft}
use Rattle.record_fields.specs.FileReading.{records_left}
use Rattle.network_file.specs.Network.{Network}
use Rattle.network_file.specs.Reading.{at_place, network_in_all, read_records}
use Rattle.network_file.specs.declared.fault.NetFault.{NetFault}
use Rattle.network_file.proofs.ReadingLemmas.{read_records-none, read_records-taken, read_records-refused, network_in_all-made, network_in_all-refused}
use Rattle.network_file.proofs.reading.read_later.Goals as goal

pub returns-in-Err-clause-refusal : goal.returns-in-Err-clause-refusal
returns-in-Err-clause-refusal c =
    let rest = records_left c.next_record.new.reader in
    let next = c.in_ok-next_record.ensures.found c.if-branch.true in
    rw c.refusal_at.ensures (read_records-refused c.loop-draft.place c.loop-draft.draft c.next_record.new.row rest c.in-Err.refusal
    (read_records 2 c.args.draft (records_left c.args.records.now)) (rw next at c.loop-draft.invariant.same) c.in-Err.ensures)

pub loop-draft-preserved : goal.loop-draft-preserved
loop-draft-preserved c =
    let rest = records_left c.next_record.new.reader in
    let next = c.in_ok-next_record.ensures.found c.if-branch.true in
    record {
      reading = c.in_ok-next_record.ensures.reading c.if-branch.true;
      same = (rw next at c.loop-draft.invariant.same)
          ∙ read_records-taken c.loop-draft.place c.loop-draft.draft c.in-Ok.more c.next_record.new.row rest c.in-Ok.ensures;
      few = omega (arith, c.loop-draft.invariant.few, ap length next);
    }

-- with no record left the draft is all there is
completes : (whole : Result Network NetFault) (place : ℕ) (draft : Draft) (left : List (List (List ℕ))) → whole ≡ read_records place draft left → left ≡ [] → whole ≡ at_place place (network_in_all draft)
completes whole place draft left same none = same ∙ rw none (read_records-none place draft)

pub returns-in-Ok-complete-clause-network : goal.returns-in-Ok-complete-clause-network
returns-in-Ok-complete-clause-network c =
    let whole = completes _ c.loop-draft.place c.loop-draft.draft _ c.loop-draft.invariant.same (c.in_ok-next_record.ensures.end c.if-branch.false) in
    whole ∙ network_in_all-made c.loop-draft.place c.loop-draft.draft c.in-Ok-complete.net c.in-Ok-complete.ensures

pub returns-in-Err-complete-clause-refusal : goal.returns-in-Err-complete-clause-refusal
returns-in-Err-complete-clause-refusal c =
    let whole = completes _ c.loop-draft.place c.loop-draft.draft _ c.loop-draft.invariant.same (c.in_ok-next_record.ensures.end c.if-branch.false) in
    rw (c.refusal_at-in-Err-complete.ensures, whole) (network_in_all-refused c.loop-draft.place c.loop-draft.draft c.in-Err-complete.refusal c.in-Err-complete.ensures)
