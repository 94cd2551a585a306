-- The draft of a file without records is sound, and a sound draft stays so with what a record adds.
use Rattle.std.proofs.Common.{ℕ, ◌≡◌, [], ◌∷◌, ◌++◌, Ok, Some, arith, refl, subst}
use Rattle.std.specs.Prelude.{Result}
use Rattle.std.specs.List.{IsDistinct}
use Rattle.std.proofs.lemmas.List.Elements.{All-nil}
use Rattle.step_plan.specs.Adding.{with_record}
use Rattle.step_plan.specs.Records.{with_cell}
use Rattle.step_plan.specs.declared.cell_record.CellRecord.{CellRecord}
use Rattle.record_fields.specs.declared.code.Code.{Code}
use Rattle.record_fields.specs.declared.region_record.RegionRecord.{RegionRecord}
use Rattle.network_file.specs.Draft.{Draft, empty_draft}
use Rattle.network_file.specs.Fitting.{FitsCell, FitsConnector, FitsRecord, FitsRegion, FitsSteps}
use Rattle.network_file.specs.Sound.{IsFormat, IsSoundDraft}
use Rattle.network_file.specs.declared.cell.Cell.{Cell}
use Rattle.network_file.specs.declared.connector.Connector.{Connector}
use Rattle.network_file.proofs.SoundLemmas.{HasSoundParts-add_cell, HasSoundParts-add_connector, HasSoundParts-add_record, regions-add_cell, regions-add_region}

pub empty_draft-sound : (format : ℕ) → IsFormat format → IsSoundDraft (empty_draft format)
unfolding IsDistinct
empty_draft-sound format known = record {
  format = known;
  some_steps = λ steps none. cc none;
  few_steps = λ steps none. cc none;
  sound = record {
    few_cells = omega arith;
    few_connectors = omega arith;
    sound_cells = All-nil _;
    names = tt;
    sound_connectors = All-nil _;
    one_out = λ i. omega arith;
    one_in = λ i. omega arith;
    planned = record {
      one_each = omega arith;
      planned = λ i there. absurd (omega arith);
      few = record {
        limits = omega arith;
        demands = omega arith;
        turns = omega arith;
        speeds = omega arith;
        no_turns = λ first. refl;
        no_speeds = λ older. refl;
      };
    };
    turns_diverge = λ i there. absurd (omega arith);
  };
  regions = All-nil _;
  no_regions = λ first. refl;
}

-- the draft that was made is the one that was taken
abbrev IsTaken : (made more : Draft) → Type 0
IsTaken made more = ◌≡◌ {A = Result Draft Code} (Ok made) (Ok more)

taken-sound : (made more : Draft) → IsTaken made more → IsSoundDraft made → IsSoundDraft more
taken-sound made more taken sound =
    let same : made ≡ more = cc taken in
    subst IsSoundDraft same sound

pub draft-add_steps : (draft more : Draft) (steps : ℕ) → IsSoundDraft draft → FitsSteps draft steps → IsTaken (record draft { steps = Some steps }) more
    → IsSoundDraft more
draft-add_steps draft more steps sound fits taken = taken-sound _ more taken (record {
  format = sound.format;
  some_steps = λ n is.
      let same : steps ≡ n = cc is in
      omega (arith, same, fits.some);
  few_steps = λ n is.
      let same : steps ≡ n = cc is in
      omega (arith, same, fits.few);
  sound = sound.sound;
  regions = sound.regions;
  no_regions = sound.no_regions;
})

pub draft-add_cell : (draft more : Draft) (cell : Cell) (capacity : ℕ) → IsSoundDraft draft → FitsCell draft cell capacity
    → IsTaken (record draft { cells = draft.cells ++ cell ∷ []; plan = with_cell draft.plan capacity }) more → IsSoundDraft more
draft-add_cell draft more cell capacity sound fits taken = taken-sound _ more taken (record {
  format = sound.format;
  some_steps = sound.some_steps;
  few_steps = sound.few_steps;
  sound = HasSoundParts-add_cell draft.format draft.cells draft.connectors draft.plan cell capacity sound.sound fits.room fits.fresh fits.sound fits.low;
  regions = regions-add_cell draft.cells cell draft.regions sound.regions;
  no_regions = sound.no_regions;
})

pub draft-add_connector : (draft more : Draft) (connector : Connector) → IsSoundDraft draft → FitsConnector draft connector
    → IsTaken (record draft { connectors = draft.connectors ++ connector ∷ [] }) more → IsSoundDraft more
draft-add_connector draft more connector sound fits taken = taken-sound _ more taken (record {
  format = sound.format;
  some_steps = sound.some_steps;
  few_steps = sound.few_steps;
  sound = HasSoundParts-add_connector draft.format draft.cells draft.connectors draft.plan connector sound.sound fits.room fits.sound fits.up_free fits.down_free;
  regions = sound.regions;
  no_regions = sound.no_regions;
})

pub draft-add_record : (draft more : Draft) (cell : ℕ) (one : CellRecord) → IsSoundDraft draft → FitsRecord draft cell one
    → IsTaken (record draft { plan = with_record draft.plan cell one }) more → IsSoundDraft more
draft-add_record draft more cell one sound fits taken = taken-sound _ more taken (record {
  format = sound.format;
  some_steps = sound.some_steps;
  few_steps = sound.few_steps;
  sound = HasSoundParts-add_record draft cell one sound.sound fits;
  regions = sound.regions;
  no_regions = sound.no_regions;
})

pub draft-add_region : (draft more : Draft) (region : RegionRecord) → IsSoundDraft draft → FitsRegion draft region
    → IsTaken (record draft { regions = draft.regions ++ region ∷ [] }) more → IsSoundDraft more
draft-add_region draft more region sound fits taken = taken-sound _ more taken (record {
  format = sound.format;
  some_steps = sound.some_steps;
  few_steps = sound.few_steps;
  sound = sound.sound;
  regions = regions-add_region draft.cells draft.regions region fits.there fits.few sound.regions;
  no_regions = λ first. absurd (omega (arith, first, fits.second_format));
})
