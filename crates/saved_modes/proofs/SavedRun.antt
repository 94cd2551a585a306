-- What is saved of a run is read again as a run that goes on as from the beginning, and `resume` ends it with the report of the plain
-- recurrences.
use Rattle.std.specs.Prelude.{All, IsSomeAnd, map, slice_index, ◌^◌}
use Rattle.std.specs.List.{range_with_len}
use Rattle.std.proofs.Common.{◌≡◌, ℕ, zero, suc, ◌+◌, ◌<◌, ◌≤◌, List, Ok, Some, get_or, length, refl, sym, ap, subst, ◌∙◌, arith}
use Rattle.std.proofs.lemmas.List.Elements.{All-from_get_or}
use Rattle.std.proofs.lemmas.List.FromFn.{fill_by_all, get_or-map-range_with_len, length-map-range_with_len}
use Rattle.std.proofs.lemmas.Simd.{map-map}
use Rattle.command_words.specs.Words.{IsInRange}
use Rattle.command_words.specs.declared.request.Request.{Request}
use Rattle.network_file.specs.Cutting.{IsCutting}
use Rattle.network_file.specs.Formats.{most_records}
use Rattle.network_file.specs.Limits.{most_bytes, most_regions}
use Rattle.network_file.specs.Network.{Network}
use Rattle.network_file.specs.Reading.{network_of}
use Rattle.network_file.specs.Sound.{IsNetwork}
use Rattle.network_file.proofs.NetworkFacts.{few_records}
use Rattle.flow_model.specs.Rows.{empty_row}
use Rattle.flow_model.specs.State.{occupancy, row_at, state_at}
use Rattle.flow_model.specs.declared.row.Row.{Row}
use Rattle.flow_model.proofs.Bounds.{IsSmall, small}
use Rattle.flow_model.proofs.States.{state_at-in_bounds}
use Rattle.region_cut.specs.CutFaults.{cut_of}
use Rattle.region_cut.specs.Cuttings.{region_at, region_count}
use Rattle.region_cut.proofs.CutFaults.{cut_of-IsCutting}
use Rattle.region_cut.proofs.Cuttings.{region_count-few}
use Rattle.region_cut.proofs.Membership.{region_at-there}
use Rattle.saved_run.specs.Content.{Content, HasNumbers, IsContent, IsRowLine}
use Rattle.saved_run.specs.Futures.{IsMoment}
use Rattle.saved_run.specs.Laws.{HasTrueStart}
use Rattle.saved_run.specs.Loading.{cutting_in, start_in}
use Rattle.saved_run.specs.Reading.{content_of}
use Rattle.saved_run.specs.SavedLength.{most_saved}
use Rattle.saved_run.specs.declared.row_line.RowLine.{RowLine}
use Rattle.saved_run.proofs.Cuttings.{cutting_in-Ok, regions_in}
use Rattle.saved_run.proofs.Futures.{moment-starts, moment-true}
use Rattle.saved_run.proofs.Lengths.{saved_text-short}
use Rattle.saved_run.proofs.Texts.{content_of-saved_text}
use Rattle.delay_report.specs.Report.{report_of}
use Rattle.call_beginning.proofs.UsedCutting.{cutting-used}
use Rattle.saved_modes.specs.ResumedAs.{IsResumedAs}
use Rattle.saved_modes.specs.SaveMode.{IsSavedRun, earlier_at, line_at, run_at}
use Rattle.saved_modes.proofs.ResumedAs.{begins-resumed_as}

-- what a cell held one step before a step that isn't the first
earlier-at : (net : Network) (step t i : ℕ) → step ≡ t + 1 → earlier_at net step i ≡ occupancy (state_at net t) i
earlier-at net step t i later =
    let next : step ≡ suc t = omega (arith, later) in
    ap (λ s. earlier_at net s i) next

small-numbers : (row : Row) → IsSmall row → HasNumbers row
small-numbers row few = record { n = omega (arith, few.n); come = omega (arith, few.come); gone = omega (arith, few.gone); wait = omega (arith, few.wait) }

module _ (net : Network) (request : Request) (input text : List ℕ) (sound : IsNetwork net) (in_range : IsInRange request) (reads : network_of input ≡ Ok net)
    (short : length input ≤ most_bytes) (is : IsSavedRun net request input text) where
  abbrev content : Content
  content = run_at net is.cut is.steps input

  abbrev step : ℕ → ℕ
  step i = slice_index is.steps (region_at is.cut i)

  abbrev line : ℕ → RowLine
  line i = line_at net is.cut (step i) i

  cutting : IsCutting (length net.cells) is.cut
  cutting = cutting-used net request is.cut sound in_range is.cutting

  few_regions : region_count is.cut ≤ most_regions
  few_regions = region_count-few (length net.cells) is.cut cutting

  in_time : (i : ℕ) → step i ≤ net.steps
  in_time i = is.stand.lawful.in_time (region_at is.cut i) 0 (omega (arith, region_at-there is.cut i, is.stand.lawful.one_each))

  -- what stands on the line of a cell
  on_line : {X : Type 0} (f : RowLine → X) (i : ℕ) (d : X) → i < length net.cells → get_or (map f content.rows) i d ≡ f (line i)
  on_line f i d there =
      ap (λ list. get_or list i d) (map-map f line (range_with_len 0 (length net.cells)))
      ∙ get_or-map-range_with_len (λ i. f (line i)) 0 (length net.cells) i i d there (omega arith)

  length-lines : {X : Type 0} (f : RowLine → X) → length (map f content.rows) ≡ length net.cells
  length-lines f = ap length (map-map f line (range_with_len 0 (length net.cells))) ∙ length-map-range_with_len (λ i. f (line i)) 0 (length net.cells)

  -- the lines give the cutting again
  regions-again : regions_in content.rows ≡ is.cut
  regions-again =
      map-map (λ line. line.region) line (range_with_len 0 (length net.cells))
      ∙ sym (fill_by_all (region_at is.cut) is.cut (length net.cells) 0 cutting.one_each (λ k within. refl))

  cutting-again : cutting_in net content ≡ Some is.cut
  cutting-again = cutting_in-Ok net content is.cut (ap (cut_of net) regions-again ∙ cut_of-IsCutting net is.cut cutting) (sym is.stand.lawful.one_each)

  moment : IsMoment net is.cut (start_in content)
  moment = record {
    lawful = is.stand.lawful;
    row_each = length-lines (λ line. line.row);
    earlier_each = length-lines (λ line. line.earlier);
    rows = λ i there. on_line (λ line. line.row) i empty_row there;
    earlier = λ i t there later. on_line (λ line. line.earlier) i 0 there ∙ earlier-at net (step i) t i later;
    none = λ i there none. on_line (λ line. line.earlier) i 0 there ∙ ap (λ s. earlier_at net s i) none;
  }

  -- the numbers of a row at a step, and what its cell held a step before
  row-small : (i t : ℕ) → i < length net.cells → t ≤ net.steps → IsSmall (row_at (state_at net t) i)
  row-small i t there within = small net t i (row_at (state_at net t) i) sound within there ((state_at-in_bounds net sound t within).each i there)

  earlier-small : (i t : ℕ) → i < length net.cells → t ≤ net.steps → earlier_at net t i < 2 ^ 64
  earlier-small i zero there within = omega arith
  earlier-small i (suc t) there within = omega (arith, (row-small i t there (omega (arith, within))).n)

  line-numbers : (i : ℕ) → i < length net.cells → IsRowLine (line i)
  line-numbers i there = record {
    region = omega (arith, region_at-there is.cut i, few_regions);
    row = small-numbers (row_at (state_at net (step i)) i) (row-small i (step i) there (in_time i));
    earlier = earlier-small i (step i) there (in_time i);
  }

  each-line : (P : RowLine → Type 0) → ((i : ℕ) → i < length net.cells → P (line i)) → All P content.rows
  each-line P each =
      All-from_get_or P content.rows (line 0)
      (λ i within.
      let there : i < length net.cells = omega (arith, within, length-map-range_with_len line 0 (length net.cells)) in
      subst P (sym (get_or-map-range_with_len line 0 (length net.cells) i i (line 0) there (omega arith))) (each i there))

  is_content : IsContent content
  is_content = record {
    some = omega (arith, is.stand.lawful.one_each);
    few = omega (arith, is.stand.lawful.one_each, few_regions);
    steps = λ k d within. omega (arith, is.stand.lawful.in_time k d within, sound.few_steps);
    rows = each-line IsRowLine line-numbers;
    network = short;
  }

  again : content_of text ≡ Some content
  again = ap content_of is.saved ∙ content_of-saved_text content is_content

  begins : IsSomeAnd (content_of text) (λ content. HasTrueStart content net is.cut)
  begins = subst (λ found. IsSomeAnd found (λ content. HasTrueStart content net is.cut)) (sym again) (record {
    cut_so = record { network = reads; cutting = cutting-again };
    can_start = moment-starts net is.cut (start_in content) sound moment;
    true_start = moment-true net is.cut (start_in content) moment;
  })

  saved-short : length text ≤ most_saved
  saved-short =
      let few : length content.rows ≤ most_records 2 = omega (arith, length-map-range_with_len line 0 (length net.cells), few_records net.format, sound.sound.few_cells) in
      subst (λ text. length text ≤ most_saved) (sym is.saved)
      (saved_text-short content is_content few (each-line (λ line. line.region < most_regions) (λ i there. omega (arith, region_at-there is.cut i, few_regions))))

  resumed : IsResumedAs (report_of net 0) text
  resumed = begins-resumed_as net is.cut text sound begins saved-short

-- a saved text is read again as a run of this network, cut so, that goes on from there as from the beginning
pub saved-begins : (net : Network) (request : Request) (input text : List ℕ) → IsNetwork net → IsInRange request → network_of input ≡ Ok net →
    length input ≤ most_bytes → (is : IsSavedRun net request input text) → IsSomeAnd (content_of text) (λ content. HasTrueStart content net is.cut)
saved-begins net request input text sound in_range reads short is = begins net request input text sound in_range reads short is

-- `resume` ends it with the report of the plain recurrences, which `run` writes where nothing is recorded
pub saved-resumed : (net : Network) (request : Request) (input text : List ℕ) → IsNetwork net → IsInRange request → network_of input ≡ Ok net →
    length input ≤ most_bytes → IsSavedRun net request input text → IsResumedAs (report_of net 0) text
saved-resumed net request input text sound in_range reads short is = resumed net request input text sound in_range reads short is
