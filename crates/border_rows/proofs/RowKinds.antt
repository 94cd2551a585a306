-- What a seat that holds a region reads and writes of the rows keeps the rule.
use Rattle.std.specs.Prelude.{◌==◌, ◌&&◌, if◌then◌else◌, ◌-◌, ◌%◌, slice_index, sum_by}
use Rattle.std.specs.List.{Contains, count_by, range_with_len}
use Rattle.std.proofs.Common.{◌≡◌, ◌≢◌, ◌⊎◌, ℕ, Bool, zero, suc, ◌+◌, ◌<◌, ◌≤◌, inl, inr, true, false, List, [], ◌∷◌, length, get_or, set, refl, sym, ap, subst, ◌∙◌, arith}
use Rattle.std.proofs.lemmas.Bool.{cases_eq, eq-eqb, ne_eqb}
use Rattle.std.proofs.lemmas.List.{get_or-set_other, get_or-set_same, length-map, length-set, set-get_or}
use Rattle.std.proofs.lemmas.List.FromFn.{get_or-map-range_with_len, length-range_with_len}
use Rattle.std.proofs.lemmas.List.Sums.{get_or-le-sum_by, sum_by-cons}
use mathlib.Core.Option.{some}
use lib.ListN.{get_elem?}
use Rattle.step_plan.proofs.Sums.{count_by-cons, sum_by_range_one, sum_by_splits}
use Rattle.network_file.specs.Network.{Network}
use Rattle.region_cut.specs.Chart.{ChartLists, IsChart}
use Rattle.region_cut.specs.Cuttings.{region_count}
use Rattle.region_cut.specs.Neighbours.{are_neighbours}
use Rattle.region_cut.specs.LawfulSteps.{AreLawful}
use Rattle.region_cut.proofs.Meetings.{neighbours-sym}
use Rattle.region_step.specs.Grid.{grid_held}
use Rattle.region_step.specs.Region.{RegionValue}
use Rattle.region_step.specs.Start.{StartLists}
use Rattle.atomic_table.specs.Table.{keeps, stepped}
use Rattle.atomic_table.proofs.Lists.{set_again}
use Rattle.border_rows.specs.Kinds.{published, with_first, wrote}
use Rattle.border_rows.specs.Places.{row_place, step_place, width_at, widths_of}
use Rattle.border_rows.specs.Standing.{Claims, FieldState, IsStanding, steps_made}
use Rattle.border_rows.specs.Views.{IsHeld, holders, knowers}
use Rattle.border_rows.specs.Words.{border_cell, border_word, claim_of, step_of, steps_of}
use Rattle.border_rows.specs.declared.view.Hold.{Hold}
use Rattle.border_rows.specs.declared.view.PublishedStep.{PublishedStep}
use Rattle.border_rows.specs.declared.view.Terms.{Terms}
use Rattle.border_rows.specs.declared.view.View.{View}
use Rattle.border_rows.proofs.ChartWidths.{length-widths_of}
use Rattle.border_rows.proofs.Keeping.{AreRight, IsRight, all_right, neighbours-there, right-stays, rows-right, steps-right, steps_of-same}
use Rattle.border_rows.proofs.LookKinds.{first-held, steps_of-at}
use Rattle.border_rows.proofs.Counting.{IsCounted, IsQuiet, counts-after, quiet-counted, sum-range-same}
use Rattle.border_rows.proofs.Logs.{times_made-more}
use Rattle.border_rows.proofs.ViewUpdates.{Contains-cons, Contains-elem, Contains-set, set-Contains, sum-set}
use Rattle.border_rows.proofs.WordUpdates.{border-set, border-set-claim, border-set-other, border-set-step, step-set, step-set-border, step-set-claim, step-set-other}

-- a list's item counts no more than all do
item-le-sum : {X : Type 0} (f : X → ℕ) (xs : List X) (x : X) → Contains xs x → f x ≤ sum_by f xs
item-le-sum f xs x has = omega (arith, get_or-le-sum_by f xs has.0 x has.1, ap f has.2)

-- of items that count 1 in all only one counts
one-counts : {X : Type 0} (f : X → ℕ) (xs : List X) (x y : X) → sum_by f xs ≤ 1 → Contains xs x → Contains xs y → 1 ≤ f x → 1 ≤ f y → x ≡ y
one-counts f [] x y few has also here there = absurd (omega (arith, has.1))
one-counts f (z ∷ zs) x y few (zero, within, is) (zero, inside, same) here there = sym is ∙ same
one-counts f (z ∷ zs) x y few (zero, within, is) (suc k, inside, same) here there =
    absurd (omega (arith, sum_by-cons f z zs, ap f is, item-le-sum f zs y (k, omega (arith, inside), same)))
one-counts f (z ∷ zs) x y few (suc k, within, is) (zero, inside, same) here there =
    absurd (omega (arith, sum_by-cons f z zs, ap f same, item-le-sum f zs x (k, omega (arith, within), is)))
one-counts f (z ∷ zs) x y few (suc k, within, is) (suc l, inside, same) here there =
    one-counts f zs x y (omega (arith, sum_by-cons f z zs)) (k, omega (arith, within), is) (l, omega (arith, inside), same) here there

-- a hold of region r counts
hold-counts : (hold : Hold) (r : ℕ) → hold.region ≡ r → 1 ≤ (if hold.region == r then 1 else 0)
hold-counts hold r is = rw (eq-eqb hold.region r is) (omega arith)

holds-count : (holds : List Hold) (hold : Hold) (r : ℕ) → Contains holds hold → hold.region ≡ r → 1 ≤ count_by (λ hold. hold.region == r) holds
holds-count holds hold r has is =
    let counts : Hold → ℕ = λ h. if h.region == r then 1 else 0 in
    omega (arith, hold-counts hold r is, item-le-sum counts holds hold has)

-- views of which one at most holds region r have one hold of it
pub holds-same : (views : List View) (v w : View) (h k : Hold) (r : ℕ) → holders views r ≤ 1 → IsHeld views v h → IsHeld views w k → h.region ≡ r → k.region ≡ r → h ≡ k
holds-same views v w h k r one held also is same =
    let counts : Hold → ℕ = λ h. if h.region == r then 1 else 0 in
    let holding : View → ℕ = λ view. count_by (λ hold. hold.region == r) view.holds in
    let first : 1 ≤ holding v = holds-count v.holds h r held.held is in
    let second : 1 ≤ holding w = holds-count w.holds k r also.held same in
    let seat : v ≡ w = one-counts holding views v w one held.seat also.seat first second in
    let few : holding w ≤ 1 = omega (arith, item-le-sum holding views w also.seat) in
    let there : Contains w.holds h = subst (λ (view : View). Contains view.holds h) seat held.held in
    one-counts counts w.holds h k few there also.held (hold-counts h r is) (hold-counts k r same)

-- a seat that knows the step of the region that it took last, and hasn't published the step to come
pub record IsWorking (terms : Terms) (s : FieldState) (id : ℕ) (view : View) (hold : Hold) (holds : List Hold) : Type 0 where
  pub standing : IsStanding terms s
  pub charted : IsChart terms.setup.now.chart
  pub seat : get_elem? s.views id ≡ some view
  pub share : view.share ≢ 0
  pub held : view.holds ≡ hold ∷ holds
  pub known : hold.known ≡ true
  pub early : hold.published ≡ false

-- the hold is the view's
hold-held : (views : List View) (id : ℕ) (view : View) (hold : Hold) (holds : List Hold) → get_elem? views id ≡ some view → view.holds ≡ hold ∷ holds → IsHeld views view hold
hold-held views id view hold holds seat held = record { seat = Contains-elem views id view seat; held = first-held view.holds hold holds held }

pub working-held : (terms : Terms) (s : FieldState) (id : ℕ) (view : View) (hold : Hold) (holds : List Hold) → IsWorking terms s id view hold holds → IsHeld s.views view hold
working-held terms s id view hold holds works = hold-held s.views id view hold holds works.seat works.held

-- no other hold of any view is of its region
pub hold-alone : (terms : Terms) (s : FieldState) (id : ℕ) (view : View) (hold : Hold) (holds : List Hold) → IsWorking terms s id view hold holds →
    (v : View) (h : Hold) → IsHeld s.views v h → h.region ≡ hold.region → h ≡ hold
hold-alone terms s id view hold holds works v h held is =
    holds-same s.views v view h hold hold.region (works.standing.claims.one hold.region) held (working-held terms s id view hold holds works) is refl

-- no other seat has its region
pub seat-alone : (terms : Terms) (s : FieldState) (id : ℕ) (view : View) (hold : Hold) (holds : List Hold) → IsWorking terms s id view hold holds →
    (v : View) (h : Hold) → IsHeld s.views v h → h.region ≡ hold.region → v ≡ view
seat-alone terms s id view hold holds works v h held is =
    let holding : View → ℕ = λ some_view. count_by (λ some_hold. some_hold.region == hold.region) some_view.holds in
    let own = working-held terms s id view hold holds works in
    one-counts holding s.views v view (works.standing.claims.one hold.region) held.seat own.seat (holds-count v.holds h hold.region held.held is)
    (holds-count view.holds hold hold.region own.held refl)

-- and the seat itself has it once
pub later-apart : (terms : Terms) (s : FieldState) (id : ℕ) (view : View) (hold : Hold) (holds : List Hold) → IsWorking terms s id view hold holds →
    (h : Hold) → Contains holds h → h.region ≢ hold.region
later-apart terms s id view hold holds works h has is =
    let p : Hold → Bool = λ some_hold. some_hold.region == hold.region in
    let holding : View → ℕ = λ some_view. count_by p some_view.holds in
    let list : holding view ≡ count_by p (hold ∷ holds) = ap (count_by p) works.held in
    let seat = item-le-sum holding s.views view (Contains-elem s.views id view works.seat) in
    omega (
      arith,
      list,
      seat,
      works.standing.claims.one hold.region,
      count_by-cons p hold holds,
      hold-counts hold hold.region refl,
      holds-count holds h hold.region has is,
    )

-- a step that leaves the word and the view as they are keeps the rule
pub read-keeps : (terms : Terms) (s : FieldState) (i id : ℕ) (c : List (ℕ × RegionValue)) (view : View) → IsStanding terms s → get_elem? s.views id ≡ some view →
    IsStanding terms (stepped s i (slice_index s.words i) id c view keeps)
read-keeps terms s i id c view standing seat =
    let words : set s.words i (slice_index s.words i) ≡ s.words = set-get_or s.words i 0 in
    let views : set s.views id view ≡ s.views = set_again s.views id view seat in
    let of : List ℕ → List View → FieldState = λ some_words some_views. record { words = some_words; homes = s.homes; views = some_views } in
    let same : stepped s i (slice_index s.words i) id c view keeps ≡ s = ap (λ some_words. of some_words (set s.views id view)) words ∙ ap (of s.words) views in
    subst (IsStanding terms) (sym same) standing

-- the step of a region just before it is published is the hold's
pub working-step : (terms : Terms) (s : FieldState) (id : ℕ) (view : View) (hold : Hold) (holds : List Hold) → IsWorking terms s id view hold holds →
    step_of terms.setup.now.chart s.words hold.region ≡ hold.step
working-step terms s id view hold holds works =
    let knows = works.standing.steps.known view hold (working-held terms s id view hold holds works) works.known in
    rw works.early at knows

pub working-there : (terms : Terms) (s : FieldState) (id : ℕ) (view : View) (hold : Hold) (holds : List Hold) → IsWorking terms s id view hold holds →
    hold.region < region_count terms.setup.now.chart.cut
working-there terms s id view hold holds works = works.standing.claims.there view hold (working-held terms s id view hold holds works)

-- neighbours stand at most a step apart
pub steps-close : (net : Network) (chart : ChartLists) (words : List ℕ) (r q : ℕ) → AreLawful net chart.cut (steps_of chart words) → are_neighbours net.connectors chart.cut r q ≡ true →
    step_of chart words r ≤ step_of chart words q + 1
steps-close net chart words r q lawful near =
    let there = neighbours-there net chart r q near in
    omega (arith, lawful.close r q near, steps_of-at chart words r there.0, steps_of-at chart words q there.1)

-- a border word of a neighbour at the region's step or past it is what the cell holds at that step
pub border-read-near : (terms : Terms) (s : FieldState) (id : ℕ) (view : View) (hold : Hold) (holds : List Hold) (q j : ℕ) → IsWorking terms s id view hold holds →
    are_neighbours terms.setup.now.net.connectors terms.setup.now.chart.cut hold.region q ≡ true → hold.step ≤ step_of terms.setup.now.chart s.words q → j < width_at (widths_of terms.setup.now.chart) q →
    border_word terms.setup.now.chart s.words q hold.step j ≡ grid_held terms.setup.now.net terms.setup.now.chart.cut terms.setup.now.start hold.step (border_cell terms.setup.now.chart q j)
border-read-near terms s id view hold holds q j works near past inside =
    let net : Network = terms.setup.now.net in
    let chart : ChartLists = terms.setup.now.chart in
    let start : StartLists = terms.setup.now.start in
    let back = neighbours-sym net.connectors chart.cut hold.region q near in
    let own : step_of chart s.words hold.region ≡ hold.step = working-step terms s id view hold holds works in
    let close : step_of chart s.words q ≤ step_of chart s.words hold.region + 1 = steps-close net chart s.words q hold.region works.standing.steps.lawful back in
    elim (cases_eq (step_of chart s.words q) hold.step) [
      | inl here ↦
          subst (λ u. border_word chart s.words q u j ≡ grid_held net chart.cut start u (border_cell chart q j)) here
          (works.standing.rows.now q j ((neighbours-there net chart hold.region q near).1) inside)
      | inr ahead ↦ works.standing.rows.before q hold.region hold.step j back own (omega arith) inside
    ]

-- so is one of a cleared neighbour
pub border-read : (terms : Terms) (s : FieldState) (id : ℕ) (view : View) (hold : Hold) (holds : List Hold) (q j : ℕ) → IsWorking terms s id view hold holds →
    Contains hold.cleared q → j < width_at (widths_of terms.setup.now.chart) q →
    border_word terms.setup.now.chart s.words q hold.step j ≡ grid_held terms.setup.now.net terms.setup.now.chart.cut terms.setup.now.start hold.step (border_cell terms.setup.now.chart q j)
border-read terms s id view hold holds q j works has inside =
    let held = working-held terms s id view hold holds works in
    border-read-near terms s id view hold holds q j works (works.standing.steps.around view hold q held works.known has)
    (works.standing.steps.cleared view hold q held works.known has) inside

-- the hold that was taken last is changed, and its region isn't: the views hold as many of each region
counted-set : (p : Hold → Bool) (views : List View) (id : ℕ) (view w : View) (hold new : Hold) (holds : List Hold) → get_elem? views id ≡ some view →
    view.holds ≡ hold ∷ holds → w.holds ≡ new ∷ holds → p new ≡ p hold →
    sum_by (λ v. count_by p v.holds) (set views id w) ≡ sum_by (λ v. count_by p v.holds) views
counted-set p views id view w hold new holds seat held changed alike =
    let counts : View → ℕ = λ v. count_by p v.holds in
    let before : counts view ≡ count_by p (hold ∷ holds) = ap (count_by p) held in
    let after : counts w ≡ count_by p (new ∷ holds) = ap (count_by p) changed in
    let one : Bool → ℕ = λ b. if b then 1 else 0 in
    let same : one (p new) ≡ one (p hold) = ap one alike in
    omega (arith, before, after, same, count_by-cons p hold holds, count_by-cons p new holds, sum-set counts views id w view seat)

-- the hold as it was and as it is now
pub record IsChanged (view w : View) (hold new : Hold) (holds : List Hold) : Type 0 where
  pub before : view.holds ≡ hold ∷ holds
  pub after : w.holds ≡ new ∷ holds
  pub region : new.region ≡ hold.region
  pub known : new.known ≡ hold.known
  pub step : new.step ≡ hold.step
  pub cleared : new.cleared ≡ hold.cleared

holders-set : (views : List View) (id : ℕ) (view w : View) (hold new : Hold) (holds : List Hold) → get_elem? views id ≡ some view → IsChanged view w hold new holds →
    (r : ℕ) → holders (set views id w) r ≡ holders views r
holders-set views id view w hold new holds seat changed r =
    counted-set (λ h. h.region == r) views id view w hold new holds seat changed.before changed.after (ap (λ region. region == r) changed.region)

knowers-set : (views : List View) (id : ℕ) (view w : View) (hold new : Hold) (holds : List Hold) → get_elem? views id ≡ some view → IsChanged view w hold new holds →
    (r : ℕ) → knowers (set views id w) r ≡ knowers views r
knowers-set views id view w hold new holds seat changed r =
    counted-set (λ h. (h.region == r) && h.known) views id view w hold new holds seat changed.before changed.after
    (ap (λ region. (region == r) && new.known) changed.region ∙ ap (λ known. (hold.region == r) && known) changed.known)

-- a hold of a view is the changed one then, or one of another region that stood there before
abbrev pub IsOther : List View → Hold → Hold → Type 0
IsOther views hold h = (h.region ≢ hold.region) × ((old : View) × IsHeld views old h)

held-after : (views : List View) (id : ℕ) (view w : View) (hold new : Hold) (holds : List Hold) → get_elem? views id ≡ some view → IsChanged view w hold new holds →
    ((r : ℕ) → holders views r ≤ 1) → (v : View) (h : Hold) → IsHeld (set views id w) v h → (h ≡ new) ⊎ IsOther views hold h
held-after views id view w hold new holds seat changed one v h held = elim (cases_eq h.region hold.region) [
  | inl is ↦
      let there : Contains (set views id w) w = set-Contains views id w view seat in
      let few : holders (set views id w) hold.region ≤ 1 = omega (arith, one hold.region, holders-set views id view w hold new holds seat changed hold.region) in
      inl (holds-same (set views id w) v w h new hold.region few held record { seat = there; held = first-held w.holds new holds changed.after } is changed.region)
  | inr other ↦ elim (Contains-set views id w v held.seat) [
    | inl is ↦
        let has : Contains (new ∷ holds) h = subst (λ (list : List Hold). Contains list h) (ap (λ (some_view : View). some_view.holds) is ∙ changed.after) held.held in
        elim (Contains-cons h new holds has) [
          | inl same ↦ absurd (other (ap (λ (some_hold : Hold). some_hold.region) same ∙ changed.region))
          | inr later ↦
              let before : Contains view.holds h = subst (λ (list : List Hold). Contains list h) (sym changed.before) (suc later.0, omega (arith, later.1), later.2) in
              inr (other, (view, record { seat = Contains-elem views id view seat; held = before }))
        ]
    | inr was ↦ inr (other, (v, record { seat = was; held = held.held }))
  ]
]

-- the field once the view and the words are changed
abbrev pub field_of : FieldState → (words : List ℕ) → (views : List View) → FieldState
field_of s words views = record { words = words; homes = s.homes; views = views }

-- a region that is known is counted
known-counts : (views : List View) (view : View) (hold : Hold) → IsHeld views view hold → hold.known ≡ true → 1 ≤ knowers views hold.region
known-counts views view hold held known =
    let counts : Hold → ℕ = λ h. if (h.region == hold.region) && h.known then 1 else 0 in
    let knowing : View → ℕ = λ v. count_by (λ h. (h.region == hold.region) && h.known) v.holds in
    let here : counts hold ≡ 1 = rw (eq-eqb hold.region hold.region refl, known) refl in
    omega (arith, here, item-le-sum counts view.holds hold held.held, item-le-sum knowing views view held.seat)

claims-worked : (terms : Terms) (s : FieldState) (id : ℕ) (view w : View) (hold new : Hold) (holds : List Hold) (words : List ℕ) →
    IsWorking terms s id view hold holds → IsChanged view w hold new holds → length words ≡ length s.words →
    ((r : ℕ) → r < region_count terms.setup.now.chart.cut → claim_of terms.setup.now.chart words r ≡ claim_of terms.setup.now.chart s.words r) →
    ((r : ℕ) → r < region_count terms.setup.now.chart.cut → r ≢ hold.region → step_of terms.setup.now.chart words r ≡ step_of terms.setup.now.chart s.words r) →
    Claims terms.setup.now (field_of s words (set s.views id w))
claims-worked terms s id view w hold new holds words works changed long claims steps =
    let old = works.standing.claims in
    record {
      words = long ∙ old.words;
      homes = old.homes;
      counted = λ r within. claims r within ∙ old.counted r within ∙ sym (holders-set s.views id view w hold new holds works.seat changed r);
      one = λ r. omega (arith, old.one r, holders-set s.views id view w hold new holds works.seat changed r);
      there = λ v h held. elim (held-after s.views id view w hold new holds works.seat changed old.one v h held) [
        | inl is ↦ subst (λ r. r < region_count terms.setup.now.chart.cut) (sym (ap (λ (some_hold : Hold). some_hold.region) is ∙ changed.region)) (working-there terms s id view hold holds works)
        | inr other ↦ old.there other.1.0 h other.1.1
      ];
      at_home = λ r within none.
          let unknown : knowers s.views r ≡ 0 = sym (knowers-set s.views id view w hold new holds works.seat changed r) ∙ none in
          let apart : r ≢ hold.region = λ same. omega (arith, ap (knowers s.views) same, known-counts s.views view hold (working-held terms s id view hold holds works) works.known) in
          rw (steps r within apart) (old.at_home r within unknown);
    }

-- no region falls back, and none but region r is published anew
pub record AreRaised (chart : ChartLists) (before after : List ℕ) (r : ℕ) : Type 0 where
  pub rises : (q : ℕ) → q < region_count chart.cut → step_of chart before q ≤ step_of chart after q
  pub others : (q : ℕ) → q < region_count chart.cut → q ≢ r → step_of chart after q ≡ step_of chart before q

-- the changed hold is right, and the others stay so
right-worked : (terms : Terms) (s : FieldState) (id : ℕ) (view w : View) (hold new : Hold) (holds : List Hold) (words : List ℕ) →
    IsWorking terms s id view hold holds → IsChanged view w hold new holds → AreRaised terms.setup.now.chart s.words words hold.region →
    ((q u j : ℕ) → q < region_count terms.setup.now.chart.cut → q ≢ hold.region → j < width_at (widths_of terms.setup.now.chart) q →
    border_word terms.setup.now.chart words q u j ≡ border_word terms.setup.now.chart s.words q u j) →
    IsRight terms.setup.now.net terms.setup.now.chart terms.setup.now.start words new → AreRight terms.setup.now.net terms.setup.now.chart terms.setup.now.start words (set s.views id w)
right-worked terms s id view w hold new holds words works changed raised word own v h held knows =
    let net : Network = terms.setup.now.net in
    let chart : ChartLists = terms.setup.now.chart in
    let start : StartLists = terms.setup.now.start in
    let old = works.standing in
    elim (held-after s.views id view w hold new holds works.seat changed old.claims.one v h held) [
      | inl is ↦ subst (IsRight net chart start words) (sym is) own
      | inr other ↦
          let there = old.claims.there other.1.0 h other.1.1 in
          let was = all_right net chart start s old.steps old.rows other.1.0 h other.1.1 knows in
          right-stays net chart start s.words words h (raised.others h.region there other.0) raised.rises
          (λ j done. word h.region (h.step + 1) j there other.0 (omega (arith, done, was.few))) was
    ]

-- what the rule says of the hold
working-right : (terms : Terms) (s : FieldState) (id : ℕ) (view : View) (hold : Hold) (holds : List Hold) → IsWorking terms s id view hold holds →
    IsRight terms.setup.now.net terms.setup.now.chart terms.setup.now.start s.words hold
working-right terms s id view hold holds works =
    all_right terms.setup.now.net terms.setup.now.chart terms.setup.now.start s works.standing.steps works.standing.rows view hold (working-held terms s id view hold holds works) works.known

-- the load of a border word keeps the rule
pub border-read-keeps : (terms : Terms) (s : FieldState) (id : ℕ) (c : List (ℕ × RegionValue)) (view : View) (hold : Hold) (holds : List Hold) (q j : ℕ) → IsWorking terms s id view hold holds →
    IsStanding terms (stepped s (row_place (widths_of terms.setup.now.chart) q (hold.step % 2) j) (border_word terms.setup.now.chart s.words q hold.step j) id c view keeps)
border-read-keeps terms s id c view hold holds q j works =
    read-keeps terms s (row_place (widths_of terms.setup.now.chart) q (hold.step % 2) j) id c view works.standing works.seat

-- all neighbours of a hold's region are cleared
abbrev pub AllCleared : Terms → Hold → Type 0
AllCleared terms hold = (q : ℕ) → are_neighbours terms.setup.now.net.connectors terms.setup.now.chart.cut hold.region q ≡ true → Contains hold.cleared q

-- the hold with one more word written, and the hold whose step is published
abbrev pub wrote_one : Hold → Hold
wrote_one hold = record hold { written = hold.written + 1 }

abbrev pub published_one : Hold → Hold
published_one hold = record hold { published = true }

wrote-changed : (view : View) (hold : Hold) (holds : List Hold) → view.holds ≡ hold ∷ holds → IsChanged view (wrote view) hold (wrote_one hold) holds
wrote-changed view hold holds held = record { before = held; after = ap (with_first wrote_one) held; region = refl; known = refl; step = refl; cleared = refl }

published-changed : (view : View) (hold : Hold) (holds : List Hold) (r n : ℕ) → view.holds ≡ hold ∷ holds → IsChanged view (published view r n) hold (published_one hold) holds
published-changed view hold holds r n held = record { before = held; after = ap (with_first published_one) held; region = refl; known = refl; step = refl; cleared = refl }

-- a sum over the regions of which one term is one more
sum-range-more : (f g : ℕ → ℕ) (n r : ℕ) → r < n → g r ≡ f r + 1 → ((p : ℕ) → p < n → p ≢ r → g p ≡ f p) →
    sum_by g (range_with_len 0 n) ≡ sum_by f (range_with_len 0 n) + 1
sum-range-more f g n r within here others =
    let one : ℕ → ℕ = λ p. if r == p then 1 else 0 in
    let both : ℕ → ℕ = λ p. f p + one p in
    let each : (p : ℕ) → p < n → g p ≡ both p = λ p inside. elim (cases_eq r p) [
      | inl is ↦ rw (eq-eqb r p is) (subst (λ k. g k ≡ f k + 1) is here)
      | inr apart ↦ rw (ne_eqb r p apart) (omega (arith, others p inside (λ same. apart (sym same))))
    ] in
    let first : sum_by g (range_with_len 0 n) ≡ sum_by both (range_with_len 0 n) = sum-range-same g both n each in
    let second : sum_by both (range_with_len 0 n) ≡ sum_by f (range_with_len 0 n) + sum_by one (range_with_len 0 n) = sum_by_splits both f one (range_with_len 0 n) (λ p. refl) in
    omega (arith, first, second, sum_by_range_one 1 r 0 n (omega arith) (omega (arith, within)))

-- a written border word keeps the rule
pub wrote-keeps : (terms : Terms) (s : FieldState) (id : ℕ) (c : List (ℕ × RegionValue)) (view : View) (hold : Hold) (holds : List Hold) (n : ℕ) → IsWorking terms s id view hold holds →
    hold.written < width_at (widths_of terms.setup.now.chart) hold.region → AllCleared terms hold →
    n ≡ grid_held terms.setup.now.net terms.setup.now.chart.cut terms.setup.now.start (hold.step + 1) (border_cell terms.setup.now.chart hold.region hold.written) →
    IsStanding terms (stepped s (row_place (widths_of terms.setup.now.chart) hold.region ((hold.step + 1) % 2) hold.written) n id c (wrote view) keeps)
wrote-keeps terms s id c view hold holds n works short all is_n =
    let net : Network = terms.setup.now.net in
    let chart : ChartLists = terms.setup.now.chart in
    let start : StartLists = terms.setup.now.start in
    let r : ℕ = hold.region in
    let place : ℕ = row_place (widths_of chart) r ((hold.step + 1) % 2) hold.written in
    let words : List ℕ = set s.words place n in
    let after : FieldState = field_of s words (set s.views id (wrote view)) in
    let wide = length-widths_of chart works.charted in
    let own : step_of chart s.words r ≡ hold.step = working-step terms s id view hold holds works in
    let inside = working-there terms s id view hold holds works in
    let within : r < length (widths_of chart) = omega (arith, wide, inside) in
    let changed = wrote-changed view hold holds works.held in
    let old = works.standing in
    let was = working-right terms s id view hold holds works in
    let step : (q : ℕ) → q < region_count chart.cut → step_of chart words q ≡ step_of chart s.words q =
    λ q there. border-set-step chart s.words r (hold.step + 1) hold.written q n within short (omega (arith, wide, there)) in
    let word : (q u j : ℕ) → q < region_count chart.cut → j < width_at (widths_of chart) q → (q ≡ r → u % 2 ≡ (hold.step + 1) % 2 → j ≡ hold.written → ⊥) →
    border_word chart words q u j ≡ border_word chart s.words q u j =
    λ q u j there here apart. border-set-other chart s.words r (hold.step + 1) hold.written q u j n within short (omega (arith, wide, there)) here apart in
    let raised : AreRaised chart s.words words r = record { rises = λ q there. omega (arith, step q there); others = λ q there apart. step q there } in
    let right = right-worked terms s id view (wrote view) hold (wrote_one hold) holds words works changed raised (λ q u j there apart here. word q u j there here (λ same parity place. apart same)) record {
      known = step r inside ∙ was.known;
      around = was.around;
      cleared = λ q has. omega (arith, was.cleared q has, step q ((neighbours-there net chart r q (was.around q has)).1));
      few = omega (arith, short);
      written = λ j done. elim (cases_eq j hold.written) [
        | inl here ↦
            subst (λ i. border_word chart words r (hold.step + 1) i ≡ grid_held net chart.cut start (hold.step + 1) (border_cell chart r i)) (sym here)
            (border-set chart s.words r (hold.step + 1) hold.written n within short old.claims.words ∙ is_n)
        | inr earlier ↦
            word r (hold.step + 1) j inside (omega (arith, done, short)) (λ same parity place. earlier place) ∙ was.written j (omega (arith, done, earlier))
      ];
      clear = λ q begun near. all q near;
      whole = λ done. absurd (absurd-bool (sym works.early ∙ done));
    } in
    let quiet : IsQuiet terms words view (wrote view) = record {
      alike = refl;
      share = refl;
      log = refl;
      reach = refl;
      long = refl;
      seen = λ q there. omega (arith, step q there, old.counts.seen view q (Contains-elem s.views id view works.seat) there);
    } in
    record {
      claims = claims-worked terms s id view (wrote view) hold (wrote_one hold) holds words works changed (length-set s.words place n)
          (λ q there. border-set-claim chart s.words r (hold.step + 1) hold.written q n within short (omega (arith, wide, there)))
          (λ q there apart. step q there);
      steps = steps-right net chart start after (subst (AreLawful net chart.cut) (sym (steps_of-same chart s.words words step)) old.steps.lawful)
          (λ q there. omega (arith, old.steps.started q there, step q there)) right;
      -- no word that a row of before needs is touched
      rows = rows-right net chart start after record {
        now = λ q j there here. rw (step q there)
            (word q (step_of chart s.words q) j there here (λ same parity place. omega (arith, ap (step_of chart s.words) same, own, parity)) ∙ old.rows.now q j there here);
        before = λ p q u j near low high here.
            let both = neighbours-there net chart p q near in
            let low_before : step_of chart s.words q ≡ u = sym (step q both.1) ∙ low in
            let high_before : step_of chart s.words p ≡ u + 1 = sym (step p both.0) ∙ high in
            let apart : p ≢ r = λ same.
            let near_own : are_neighbours net.connectors chart.cut r q ≡ true = subst (λ k. are_neighbours net.connectors chart.cut k q ≡ true) same near in
            omega (arith, ap (step_of chart s.words) same, own, low_before, high_before, was.cleared q (all q near_own)) in
            word p u j both.0 here (λ same parity place. apart same) ∙ old.rows.before p q u j near low_before high_before here;
      } right;
      counts = counts-after terms s words s.homes id view (wrote view) old.counts works.seat works.share (quiet-counted terms s.words words view (wrote view) step quiet);
    }
  where
    absurd-bool : false ≡ true → ⊥
    absurd-bool same = cc

steps_made-more : (chart : ChartLists) (start : StartLists) (before after : List ℕ) (r : ℕ) → r < region_count chart.cut → slice_index start.steps r ≤ step_of chart before r →
    step_of chart after r ≡ step_of chart before r + 1 → ((q : ℕ) → q < region_count chart.cut → q ≢ r → step_of chart after q ≡ step_of chart before q) →
    steps_made chart start after ≡ steps_made chart start before + 1
steps_made-more chart start before after r within started more others =
    sum-range-more (λ q. step_of chart before q - slice_index start.steps q) (λ q. step_of chart after q - slice_index start.steps q) (region_count chart.cut) r within
    (omega (arith, more, started)) (λ q inside apart. ap (λ step. step - slice_index start.steps q) (others q inside apart))

-- a rise of a region of which no neighbour is lower keeps the steps lawful
lawful-risen : (net : Network) (chart : ChartLists) (before after : List ℕ) (r : ℕ) → r < region_count chart.cut → AreLawful net chart.cut (steps_of chart before) →
    AreRaised chart before after r → step_of chart after r ≡ step_of chart before r + 1 → step_of chart before r < net.steps →
    ((q : ℕ) → are_neighbours net.connectors chart.cut r q ≡ true → step_of chart before r ≤ step_of chart before q) → AreLawful net chart.cut (steps_of chart after)
lawful-risen net chart before after r within lawful raised more below lowest = record {
  one_each = long after;
  in_time = λ k d inside.
      let there : k < region_count chart.cut = omega (arith, inside, long after) in
      let is : get_or (steps_of chart after) k d ≡ step_of chart after k = get_or-map-range_with_len (step_of chart after) 0 (region_count chart.cut) k k d there (omega arith) in
      let was : step_of chart before k ≤ net.steps = omega (arith, lawful.in_time k 0 (omega (arith, there, long before)), steps_of-at chart before k there) in
      elim (cases_eq k r) [
        | inl same ↦ omega (arith, is, ap (step_of chart after) same, more, below)
        | inr apart ↦ omega (arith, is, raised.others k there apart, was)
      ];
  close = λ p q near.
      let both = neighbours-there net chart p q near in
      let here = steps_of-at chart after p both.0 in
      let there = steps_of-at chart after q both.1 in
      elim (cases_eq p r) [
        | inl same ↦
            let near_own : are_neighbours net.connectors chart.cut r q ≡ true = subst (λ k. are_neighbours net.connectors chart.cut k q ≡ true) same near in
            omega (arith, here, there, ap (step_of chart after) same, more, lowest q near_own, raised.rises q both.1)
        | inr apart ↦ omega (arith, here, there, raised.others p both.0 apart, steps-close net chart before p q lawful near, raised.rises q both.1)
      ];
}
  where
    long : (words : List ℕ) → length (steps_of chart words) ≡ region_count chart.cut
    long words = length-map (range_with_len 0 (region_count chart.cut)) (step_of chart words) ∙ length-range_with_len 0 (region_count chart.cut)

-- the words once step hold.step + 1 of the hold's region is published
abbrev pub published_words : ChartLists → (words : List ℕ) → Hold → List ℕ
published_words chart words hold = set words (step_place (widths_of chart) hold.region) (hold.step + 1)

published-own : (terms : Terms) (s : FieldState) (id : ℕ) (view : View) (hold : Hold) (holds : List Hold) → IsWorking terms s id view hold holds →
    step_of terms.setup.now.chart (published_words terms.setup.now.chart s.words hold) hold.region ≡ hold.step + 1
published-own terms s id view hold holds works =
    step-set terms.setup.now.chart s.words hold.region (hold.step + 1)
    (omega (arith, length-widths_of terms.setup.now.chart works.charted, working-there terms s id view hold holds works)) works.standing.claims.words

published-raised : (terms : Terms) (s : FieldState) (id : ℕ) (view : View) (hold : Hold) (holds : List Hold) → IsWorking terms s id view hold holds →
    AreRaised terms.setup.now.chart s.words (published_words terms.setup.now.chart s.words hold) hold.region
published-raised terms s id view hold holds works =
    let chart : ChartLists = terms.setup.now.chart in
    let words : List ℕ = published_words chart s.words hold in
    let wide = length-widths_of chart works.charted in
    let inside = working-there terms s id view hold holds works in
    let others : (q : ℕ) → q < region_count chart.cut → q ≢ hold.region → step_of chart words q ≡ step_of chart s.words q =
    λ q there apart. step-set-other chart s.words hold.region q (hold.step + 1) (omega (arith, wide, inside)) (omega (arith, wide, there)) apart in
    record {
      rises = λ q there. elim (cases_eq q hold.region) [
        | inl same ↦
            omega (
              arith,
              ap (step_of chart s.words) same,
              ap (step_of chart words) same,
              working-step terms s id view hold holds works,
              published-own terms s id view hold holds works,
            )
        | inr apart ↦ omega (arith, others q there apart)
      ];
      others = others;
    }

-- a published step keeps the rule
pub published-keeps : (terms : Terms) (s : FieldState) (id : ℕ) (c : List (ℕ × RegionValue)) (view : View) (hold : Hold) (holds : List Hold) → IsWorking terms s id view hold holds →
    hold.written ≡ width_at (widths_of terms.setup.now.chart) hold.region → AllCleared terms hold → hold.step < terms.setup.now.net.steps →
    IsStanding terms (stepped s (step_place (widths_of terms.setup.now.chart) hold.region) (hold.step + 1) id c (published view hold.region (hold.step + 1)) keeps)
published-keeps terms s id c view hold holds works full all below =
    let net : Network = terms.setup.now.net in
    let chart : ChartLists = terms.setup.now.chart in
    let start : StartLists = terms.setup.now.start in
    let r : ℕ = hold.region in
    let t : ℕ = hold.step in
    let words : List ℕ = published_words chart s.words hold in
    let w : View = published view r (t + 1) in
    let old = works.standing in
    let wide = length-widths_of chart works.charted in
    let was : step_of chart s.words r ≡ t = working-step terms s id view hold holds works in
    let own : step_of chart words r ≡ t + 1 = published-own terms s id view hold holds works in
    let more : step_of chart words r ≡ step_of chart s.words r + 1 = omega (arith, was, own) in
    let raised = published-raised terms s id view hold holds works in
    let inside = working-there terms s id view hold holds works in
    let changed = published-changed view hold holds r (t + 1) works.held in
    let after : FieldState = field_of s words (set s.views id w) in
    let is = working-right terms s id view hold holds works in
    let word : (q u j : ℕ) → q < region_count chart.cut → j < width_at (widths_of chart) q → border_word chart words q u j ≡ border_word chart s.words q u j =
    λ q u j there here. step-set-border chart s.words r q u j (t + 1) (omega (arith, wide, inside)) (omega (arith, wide, there)) here in
    let right = right-worked terms s id view w hold (published_one hold) holds words works changed raised (λ q u j there apart here. word q u j there here) record {
      known = own;
      around = is.around;
      cleared = λ q has. omega (arith, is.cleared q has, raised.rises q ((neighbours-there net chart r q (is.around q has)).1));
      few = is.few;
      written = λ j done. word r (t + 1) j inside (omega (arith, done, full)) ∙ is.written j done;
      clear = λ q begun near. all q near;
      whole = λ done. full;
    } in
    let lowest : (q : ℕ) → are_neighbours net.connectors chart.cut r q ≡ true → step_of chart s.words r ≤ step_of chart s.words q =
    λ q near. omega (arith, was, is.cleared q (all q near)) in
    let lawful = lawful-risen net chart s.words words r inside old.steps.lawful raised more (omega (arith, was, below)) lowest in
    let has = Contains-elem s.views id view works.seat in
    let long = old.counts.lengths view has works.share in
    let counted : IsCounted terms s.words words view w = record {
      alike = refl;
      share = refl;
      long = length-set view.seen r (t + 1);
      rises = raised.rises;
      seen = λ q there. elim (cases_eq q r) [
        | inl same ↦
            subst (λ k. slice_index (set view.seen r (t + 1)) k ≤ step_of chart words k) (sym same)
            (omega (arith, get_or-set_same view.seen r (t + 1) 0 (omega (arith, long, inside)), own))
        | inr apart ↦ omega (arith, get_or-set_other view.seen r q (t + 1) 0 apart, old.counts.seen view q has there, raised.rises q there)
      ];
      moves = omega (arith, steps_made-more chart start s.words words r inside (old.steps.started r inside) more raised.others);
      logged = λ q u. omega (
        arith,
        count_by-cons (λ (entry : PublishedStep). (entry.region == q) && (entry.step == u)) (record { region = r; step = t + 1 }) view.log,
        times_made-more chart start s.words words r q u t inside (omega (arith, old.steps.started r inside, was)) was own raised.others,
      );
      further = omega arith;
      reach = λ q there. elim (cases_eq q r) [
        | inl same ↦ inr (omega (arith, ap (step_of chart words) same, own))
        | inr apart ↦ inl (raised.others q there apart)
      ];
    } in
    record {
      claims = claims-worked terms s id view w hold (published_one hold) holds words works changed (length-set s.words (step_place (widths_of chart) r) (t + 1))
          (λ q there. step-set-claim chart s.words r q (t + 1) (omega (arith, wide, inside)) (omega (arith, wide, there)))
          raised.others;
      steps = steps-right net chart start after lawful (λ q there. omega (arith, old.steps.started q there, raised.rises q there)) right;
      -- the row of the published step is the one that was written, and the one before stays
      rows = rows-right net chart start after record {
        now = λ q j there here. elim (cases_eq q r) [
          | inl same ↦
              let place : j < hold.written = omega (arith, here, full, ap (width_at (widths_of chart)) same) in
              subst (λ k. border_word chart words k (step_of chart words k) j ≡ grid_held net chart.cut start (step_of chart words k) (border_cell chart k j)) (sym same)
              (rw own (word r (t + 1) j inside (omega (arith, place, full)) ∙ is.written j place))
          | inr apart ↦ rw (raised.others q there apart) (word q (step_of chart s.words q) j there here ∙ old.rows.now q j there here)
        ];
        before = λ p q u j near low high here.
            let both = neighbours-there net chart p q near in
            word p u j both.0 here ∙ elim (cases_eq p r) [
              | inl same ↦
                  let stands : step_of chart s.words p ≡ u = omega (arith, ap (step_of chart words) same, ap (step_of chart s.words) same, own, was, high) in
                  subst (λ v. border_word chart s.words p v j ≡ grid_held net chart.cut start v (border_cell chart p j)) stands (old.rows.now p j both.0 here)
              | inr apart ↦
                  let high_before : step_of chart s.words p ≡ u + 1 = sym (raised.others p both.0 apart) ∙ high in
                  let other : q ≢ r = λ same.
                  omega (arith, ap (step_of chart words) same, ap (step_of chart s.words) same, own, was, low, high_before, steps-close net chart s.words p q old.steps.lawful near) in
                  old.rows.before p q u j near (sym (raised.others q both.1 other) ∙ low) high_before here
            ];
      } right;
      counts = counts-after terms s words s.homes id view w old.counts works.seat works.share counted;
    }
