-- A plan stays sound, and its counts right, with one more cell or record.
use Rattle.std.proofs.Common.{◌≡◌, ℕ, ◌<◌, ◌≤◌, [], length, arith, ap, sym, ◌∙◌}
use Rattle.std.proofs.lemmas.List.{length_push, length-set}
use Rattle.std.proofs.lemmas.List.Elements.{All-nil, All-push, All-set}
use Rattle.step_plan.specs.Adding.{with_own, with_record}
use Rattle.step_plan.specs.Counts.{counts_of}
use Rattle.step_plan.specs.Counted.{with_one}
use Rattle.step_plan.specs.Records.{CellRecords, PlannedCell, PlanRecords, bare, bare_cell, planned_at, records_at, with_cell}
use Rattle.step_plan.specs.Sound.{AreSound, HasRoom, IsCounted, IsSoundDemand, IsSoundLimit, IsSoundPlan, IsSoundRecord, IsSoundSpeed, IsSoundTurn, most_cells, most_demands}
use Rattle.step_plan.specs.declared.cell_record.CellRecord.{CellRecord}
use Rattle.step_plan.specs.declared.cell_record.CellRecord.TheVariants.{Signal, Limit, Demand, Turn, Speed}
use Rattle.step_plan.specs.declared.plan_counts.PlanCounts.{PlanCounts}
use Rattle.step_plan.proofs.Counting.{counts_of-with_cell, counts_of-with_record}

-- what holds of the records of each cell
abbrev sound_cell : PlannedCell → Type 0
sound_cell planned = AreSound planned.records

AreSound-bare : AreSound bare
AreSound-bare = record {
  signal = tt;
  limits = All-nil _;
  demands = All-nil _;
  turns = All-nil _;
  speeds = All-nil _;
}

AreSound-with_own : (own : CellRecords) (one : CellRecord) → AreSound own → IsSoundRecord one → AreSound (with_own own one)
AreSound-with_own own (Signal signal) old fits =
    record { signal = fits; limits = old.limits; demands = old.demands; turns = old.turns; speeds = old.speeds }
AreSound-with_own own (Limit limit) old fits =
    record { signal = old.signal; limits = All-push IsSoundLimit own.limits limit old.limits fits; demands = old.demands; turns = old.turns; speeds = old.speeds }
AreSound-with_own own (Demand demand) old fits =
    record { signal = old.signal; limits = old.limits; demands = All-push IsSoundDemand own.demands demand old.demands fits; turns = old.turns; speeds = old.speeds }
AreSound-with_own own (Turn turn) old fits =
    record { signal = old.signal; limits = old.limits; demands = old.demands; turns = All-push IsSoundTurn own.turns turn old.turns fits; speeds = old.speeds }
AreSound-with_own own (Speed speed) old fits =
    record { signal = old.signal; limits = old.limits; demands = old.demands; turns = old.turns; speeds = All-push IsSoundSpeed own.speeds speed old.speeds fits }

pub IsSoundPlan-no_records : IsSoundPlan (record { cells = [] })
IsSoundPlan-no_records = record {
  few_cells = omega arith;
  few_demands = omega arith;
  records = All-nil _;
}

pub IsCounted-with_cell : (plan : PlanRecords) (capacity : ℕ) (counts : PlanCounts) → length plan.cells < most_cells → IsCounted plan counts →
    IsCounted (with_cell plan capacity) counts
IsCounted-with_cell plan capacity counts few counted = record {
  sound = record {
    few_cells = omega (arith, length_push plan.cells (bare_cell capacity));
    few_demands = omega (arith, counted.sound.few_demands, ap (λ (n : PlanCounts). n.demands) (counts_of-with_cell plan capacity));
    records = All-push sound_cell plan.cells (bare_cell capacity) counted.sound.records AreSound-bare;
  };
  counts = counted.counts ∙ sym (counts_of-with_cell plan capacity);
}

-- a record that the plan has room for leaves the demand records within bounds
few_demands : (plan : PlanRecords) (cell : ℕ) (one : CellRecord) → HasRoom plan cell one → (counts_of plan).demands ≤ most_demands →
    (with_one (counts_of plan) one).demands ≤ most_demands
few_demands plan cell (Signal signal) room few = few
few_demands plan cell (Limit limit) room few = few
few_demands plan cell (Demand demand) room few = omega (arith, room)
few_demands plan cell (Turn turn) room few = few
few_demands plan cell (Speed speed) room few = few

pub IsCounted-with_record : (plan : PlanRecords) (cell : ℕ) (one : CellRecord) (old new : PlanCounts) → cell < length plan.cells → IsSoundRecord one →
    HasRoom plan cell one → new ≡ with_one old one → IsCounted plan old → IsCounted (with_record plan cell one) new
IsCounted-with_record plan cell one old new has fits room more counted =
    let counts = counts_of-with_record plan cell one has room in
    let changed : PlannedCell = record (planned_at plan cell) { records = with_own (records_at plan cell) one } in
    record {
      sound = record {
        few_cells = rw length-set counted.sound.few_cells;
        few_demands = omega (arith, few_demands plan cell one room counted.sound.few_demands, ap (λ (n : PlanCounts). n.demands) counts);
        records = All-set sound_cell plan.cells cell changed
            (AreSound-with_own (records_at plan cell) one (counted.sound.records cell (bare_cell 0) has) fits) counted.sound.records;
      };
      counts = more ∙ ap (λ (n : PlanCounts). with_one n one) counted.counts ∙ sym counts;
    }
