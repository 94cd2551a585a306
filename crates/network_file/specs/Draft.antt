-- The network as far as its records have been read, and each step that takes one more record.
use Rattle.std.specs.Prelude.{ℕ, List, [], ◌∷◌, ◌++◌, Option, Some, None}
use Rattle.step_plan.specs.Adding.{with_record}
use Rattle.step_plan.specs.Records.{PlanRecords, with_cell}
use Rattle.network_file.specs.declared.cell.Cell.{Cell}
use Rattle.network_file.specs.declared.connector.Connector.{Connector}
use Rattle.network_file.specs.declared.entry.Entry.{Entry}
use Rattle.network_file.specs.declared.entry.Entry.TheVariants as says
use Rattle.record_fields.specs.declared.region_record.RegionRecord.{RegionRecord}

pub record Draft : Type 0 where
  -- 1 to 3
  pub format : ℕ
  -- the number of steps, where a record said it
  pub steps : Option ℕ
  pub cells : List Cell
  pub connectors : List Connector
  pub plan : PlanRecords
  pub regions : List RegionRecord

-- the draft of a file that has its header alone
abbrev pub empty_draft : (format : ℕ) → Draft
empty_draft format = record { format = format; steps = None; cells = []; connectors = []; plan = record { cells = [] }; regions = [] }

-- the draft with what a record says
abbrev pub with_entry : Draft → Entry → Draft
with_entry draft (says.Steps steps) = record draft { steps = Some steps }
with_entry draft (says.Cell cell capacity) = record draft { cells = draft.cells ++ cell ∷ []; plan = with_cell draft.plan capacity }
with_entry draft (says.Connector connector) = record draft { connectors = draft.connectors ++ connector ∷ [] }
with_entry draft (says.Record cell one) = record draft { plan = with_record draft.plan cell one }
with_entry draft (says.Region region) = record draft { regions = draft.regions ++ region ∷ [] }
