-- A step that reads a step word and leaves it as it is keeps the rule.
use Rattle.std.specs.Prelude.{slice_index, sum_by, count_by, if◌then◌else◌, ◌==◌, ◌&&◌}
use Rattle.std.specs.List.{Contains}
use Rattle.std.proofs.Common.{◌≡◌, ◌≢◌, ◌⊎◌, ℕ, Bool, zero, suc, cond, ◌+◌, ◌<◌, ◌≤◌, inl, inr, true, false, List, [], ◌∷◌, length, set, refl, sym, ap, subst, ◌∙◌, arith}
use Rattle.std.proofs.lemmas.Bool.{cases_eq, eq-eqb}
use Rattle.std.proofs.lemmas.List.{get_or-set_other, get_or-set_same, length-set, set-get_or}
use Rattle.std.proofs.lemmas.List.FromFn.{get_or-map-range_with_len}
use Rattle.std.proofs.lemmas.List.Sums.{sum_by-cons, sum_by-le-sum_by}
use mathlib.Core.Option.{none, some, some-injective}
use mathlib.Core.Option as maybe
use lib.ListN.{get_elem?}
use Rattle.network_file.specs.Network.{Network}
use Rattle.region_cut.specs.Chart.{ChartLists}
use Rattle.region_cut.specs.Cuttings.{region_count}
use Rattle.region_cut.specs.Neighbours.{are_neighbours}
use Rattle.region_step.specs.Region.{RegionValue}
use Rattle.region_step.specs.Standing.{Stands}
use Rattle.region_step.specs.Start.{StartLists}
use Rattle.atomic_table.specs.Table.{keeps, stepped, takes}
use Rattle.atomic_table.proofs.Lists.{set_else}
use Rattle.border_rows.specs.Kinds.{cleared, found_at, found_short, fresh, known_at, looked, with_first}
use Rattle.border_rows.specs.Places.{step_place, widths_of}
use Rattle.border_rows.specs.Standing.{Claims, FieldState, IsHome, IsStanding}
use Rattle.border_rows.specs.Views.{IsHeld, holders, knowers}
use Rattle.border_rows.specs.Words.{step_of, steps_of}
use Rattle.border_rows.specs.declared.view.Hold.{Hold}
use Rattle.border_rows.specs.declared.view.Terms.{Terms}
use Rattle.border_rows.specs.declared.view.View.{View}
use Rattle.border_rows.proofs.Counting.{IsQuiet, counts-after, quiet-counted}
use Rattle.border_rows.proofs.Keeping.{AreRight, IsRight, all_right, neighbours-there, old-rows, rows-right, steps-right}
use Rattle.border_rows.proofs.ViewUpdates.{Contains-cons, Contains-elem, Contains-set, sum-set}

-- how many of a view's holds are of region r, and of how many of these the step is known
abbrev pub held_in : View → (r : ℕ) → ℕ
held_in view r = count_by (λ hold. hold.region == r) view.holds

abbrev pub known_in : View → (r : ℕ) → ℕ
known_in view r = count_by (λ hold. (hold.region == r) && hold.known) view.holds

-- a hold is one of before or one of the changed view
pub held-set : (views : List View) (id : ℕ) (w view : View) (hold : Hold) → IsHeld (set views id w) view hold → IsHeld views view hold ⊎ Contains w.holds hold
held-set views id w view hold held = elim (Contains-set views id w view held.seat) [
  | inl is ↦ inr (subst (λ (v : View). Contains v.holds hold) is held.held)
  | inr seat ↦ inl record { seat = seat; held = held.held }
]

-- what a step that reads changes in a view: it holds the same regions, knows the steps of no fewer, and has seen no more than
-- there is
pub record IsReader (terms : Terms) (s : FieldState) (view w : View) : Type 0 where
  pub quiet : IsQuiet terms s.words view w
  pub same : (r : ℕ) → held_in w r ≡ held_in view r
  pub more : (r : ℕ) → known_in view r ≤ known_in w r
  pub there : (hold : Hold) → Contains w.holds hold → hold.region < region_count terms.setup.now.chart.cut
  pub right : (hold : Hold) → Contains w.holds hold → hold.known ≡ true → IsRight terms.setup.now.net terms.setup.now.chart terms.setup.now.start s.words hold

-- such a step keeps the claims, where the regions at home stay but those of which a step is known now
claims-read : (terms : Terms) (s : FieldState) (homes : List (maybe.Option RegionValue)) (id : ℕ) (view w : View) →
    Claims terms.setup.now s → get_elem? s.views id ≡ some view → IsReader terms s view w →
    length homes ≡ length s.homes → ((r : ℕ) (region : RegionValue) → knowers (set s.views id w) r ≡ 0 → IsHome s.homes r region → IsHome homes r region) →
    Claims terms.setup.now record { words = s.words; homes = homes; views = set s.views id w }
claims-read terms s homes id view w old is reads long stay =
    let chart : ChartLists = terms.setup.now.chart in
    let held : (r : ℕ) → holders (set s.views id w) r ≡ holders s.views r = λ r. omega (arith, sum-set (λ v. held_in v r) s.views id w view is, reads.same r) in
    let knew : (r : ℕ) → knowers s.views r ≤ knowers (set s.views id w) r = λ r. omega (arith, sum-set (λ v. known_in v r) s.views id w view is, reads.more r) in
    record {
      words = old.words;
      homes = long ∙ old.homes;
      counted = λ r within. old.counted r within ∙ sym (held r);
      one = λ r. omega (arith, old.one r, held r);
      there = λ v hold holds. elim (held-set s.views id w v hold holds) [
        | inl before ↦ old.there v hold before
        | inr new ↦ reads.there hold new
      ];
      at_home = λ r within unknown.
          let home = old.at_home r within (omega (arith, knew r, unknown)) in
          (home.0, stay r home.0 unknown home.1, home.2);
    }

-- so does it keep the rule
pub standing-read : (terms : Terms) (s : FieldState) (homes : List (maybe.Option RegionValue)) (id : ℕ) (view w : View) →
    IsStanding terms s → get_elem? s.views id ≡ some view → view.share ≢ 0 → IsReader terms s view w →
    length homes ≡ length s.homes → ((r : ℕ) (region : RegionValue) → knowers (set s.views id w) r ≡ 0 → IsHome s.homes r region → IsHome homes r region) →
    IsStanding terms record { words = s.words; homes = homes; views = set s.views id w }
standing-read terms s homes id view w old is shares reads long stay =
    let net : Network = terms.setup.now.net in
    let right : AreRight net terms.setup.now.chart terms.setup.now.start s.words (set s.views id w) = λ v hold held knows. elim (held-set s.views id w v hold held) [
      | inl before ↦ all_right net terms.setup.now.chart terms.setup.now.start s old.steps old.rows v hold before knows
      | inr new ↦ reads.right hold new knows
    ] in
    record {
      claims = claims-read terms s homes id view w old.claims is reads long stay;
      steps = steps-right net terms.setup.now.chart terms.setup.now.start (record { words = s.words; homes = homes; views = set s.views id w }) old.steps.lawful old.steps.started right;
      rows = rows-right net terms.setup.now.chart terms.setup.now.start (record { words = s.words; homes = homes; views = set s.views id w }) (old-rows net terms.setup.now.chart terms.setup.now.start s old.rows) right;
      counts = counts-after terms s s.words homes id view w old.counts is shares (quiet-counted terms s.words s.words view w (λ r within. refl) reads.quiet);
    }

-- what was read of a region is what it has published
seen-read : (terms : Terms) (s : FieldState) (view : View) (r q : ℕ) → IsStanding terms s → Contains s.views view → view.share ≢ 0 →
    r < region_count terms.setup.now.chart.cut → q < region_count terms.setup.now.chart.cut →
    slice_index (set view.seen r (step_of terms.setup.now.chart s.words r)) q ≤ step_of terms.setup.now.chart s.words q
seen-read terms s view r q old seat shares within there =
    let chart : ChartLists = terms.setup.now.chart in
    let long = old.counts.lengths view seat shares in
    elim (cases_eq q r) [
      | inl same ↦ subst (λ p. slice_index (set view.seen r (step_of chart s.words r)) p ≤ step_of chart s.words p) (sym same)
          (omega (arith, get_or-set_same view.seen r (step_of chart s.words r) 0 (omega (arith, long, within))))
      | inr other ↦ omega (arith, get_or-set_other view.seen r q (step_of chart s.words r) 0 other, old.counts.seen view q seat there)
    ]

-- the word that was read stays
pub word_stays : (terms : Terms) (s : FieldState) (i : ℕ) (homes : List (maybe.Option RegionValue)) (views : List View) →
    IsStanding terms record { words = s.words; homes = homes; views = views } → IsStanding terms record { words = set s.words i (slice_index s.words i); homes = homes; views = views }
word_stays terms s i homes views new = subst (λ words. IsStanding terms record { words = words; homes = homes; views = views }) (sym (set-get_or s.words i 0)) new

-- a view that holds the same reads no more
same-reads : (terms : Terms) (s : FieldState) (id : ℕ) (view w : View) → IsStanding terms s → get_elem? s.views id ≡ some view → w.holds ≡ view.holds → IsQuiet terms s.words view w →
    IsReader terms s view w
same-reads terms s id view w old is same quiet =
    let held : (hold : Hold) → Contains w.holds hold → IsHeld s.views view hold =
    λ hold has. record { seat = Contains-elem s.views id view is; held = subst (λ holds. Contains holds hold) same has } in
    record {
      quiet = quiet;
      same = λ q. ap (λ holds. count_by (λ (hold : Hold). hold.region == q) holds) same;
      more = λ q. omega (arith, ap (λ holds. count_by (λ (hold : Hold). (hold.region == q) && hold.known) holds) same);
      there = λ hold has. old.claims.there view hold (held hold has);
      right = λ hold has knows. all_right terms.setup.now.net terms.setup.now.chart terms.setup.now.start s old.steps old.rows view hold (held hold has) knows;
    }

-- a step that changes neither words nor what its seat holds keeps the rule
pub same-keeps : (terms : Terms) (s : FieldState) (i id : ℕ) (c : List (ℕ × RegionValue)) (view w : View) → IsStanding terms s → get_elem? s.views id ≡ some view → view.share ≢ 0 →
    w.holds ≡ view.holds → IsQuiet terms s.words view w → IsStanding terms (stepped s i (slice_index s.words i) id c w keeps)
same-keeps terms s i id c view w old is shares same quiet =
    word_stays terms s i s.homes (set s.views id w) (standing-read terms s s.homes id view w old is shares (same-reads terms s id view w old is same quiet) refl (λ q region none home. home))

-- a view that has only seen the step of a region has published nothing more
seen-quiet : (terms : Terms) (s : FieldState) (id r : ℕ) (view w : View) → IsStanding terms s → get_elem? s.views id ≡ some view → view.share ≢ 0 → r < region_count terms.setup.now.chart.cut →
    w ≡ record w { terms = view.terms; share = view.share; log = view.log; reach = view.reach; seen = set view.seen r (step_of terms.setup.now.chart s.words r) } → IsQuiet terms s.words view w
seen-quiet terms s id r view w old is shares within saw = record {
  alike = ap (λ (v : View). v.terms) saw;
  share = ap (λ (v : View). v.share) saw;
  log = ap (λ (v : View). v.log) saw;
  reach = ap (λ (v : View). v.reach) saw;
  long = ap (λ (v : View). length v.seen) saw ∙ length-set view.seen r (step_of terms.setup.now.chart s.words r);
  seen = λ q there. omega (arith, ap (λ (v : View). slice_index v.seen q) saw, seen-read terms s view r q old (Contains-elem s.views id view is) shares within there);
}

-- a look at a region's step keeps the rule
pub looked-keeps : (terms : Terms) (s : FieldState) (id r : ℕ) (c : List (ℕ × RegionValue)) (view : View) →
    IsStanding terms s → get_elem? s.views id ≡ some view → view.share ≢ 0 → r < region_count terms.setup.now.chart.cut →
    IsStanding terms (stepped s (step_place (widths_of terms.setup.now.chart) r) (step_of terms.setup.now.chart s.words r) id c (looked view r (step_of terms.setup.now.chart s.words r)) keeps)
looked-keeps terms s id r c view old is shares within =
    let w : View = looked view r (step_of terms.setup.now.chart s.words r) in
    same-keeps terms s (step_place (widths_of terms.setup.now.chart) r) id c view w old is shares refl (seen-quiet terms s id r view w old is shares within refl)

-- so does finding a neighbour a step lower
pub found_short-keeps : (terms : Terms) (s : FieldState) (id r q : ℕ) (c : List (ℕ × RegionValue)) (view : View) →
    IsStanding terms s → get_elem? s.views id ≡ some view → view.share ≢ 0 → q < region_count terms.setup.now.chart.cut →
    IsStanding terms (stepped s (step_place (widths_of terms.setup.now.chart) q) (step_of terms.setup.now.chart s.words q) id c (found_short view r q (step_of terms.setup.now.chart s.words q)) keeps)
found_short-keeps terms s id r q c view old is shares within =
    let w : View = found_short view r q (step_of terms.setup.now.chart s.words q) in
    same-keeps terms s (step_place (widths_of terms.setup.now.chart) q) id c view w old is shares refl (seen-quiet terms s id q view w old is shares within refl)

-- the steps of all regions have each region's
pub steps_of-at : (chart : ChartLists) (words : List ℕ) (r : ℕ) → r < region_count chart.cut → slice_index (steps_of chart words) r ≡ step_of chart words r
steps_of-at chart words r within = get_or-map-range_with_len (step_of chart words) 0 (region_count chart.cut) r r 0 within (omega arith)

-- a neighbour below a region whose step is known stands one step lower
pub short-by-one : (terms : Terms) (s : FieldState) (r q : ℕ) (view : View) (hold : Hold) → IsStanding terms s → IsHeld s.views view hold →
    hold.region ≡ r → hold.known ≡ true → hold.published ≡ false → are_neighbours terms.setup.now.net.connectors terms.setup.now.chart.cut r q ≡ true →
    step_of terms.setup.now.chart s.words q < hold.step → step_of terms.setup.now.chart s.words q + 1 ≡ hold.step
short-by-one terms s r q view hold old held region knows unpublished near below =
    let chart : ChartLists = terms.setup.now.chart in
    let both = neighbours-there terms.setup.now.net chart r q near in
    let stands : step_of chart s.words hold.region ≡ hold.step =
    old.steps.known view hold held knows ∙ ap (λ published. if published then hold.step + 1 else hold.step) unpublished in
    let own : step_of chart s.words r ≡ hold.step = ap (step_of chart s.words) (sym region) ∙ stands in
    omega (arith, below, own, old.steps.lawful.close r q near, steps_of-at chart s.words r both.0, steps_of-at chart s.words q both.1)

-- the hold that was taken last, changed, or one of before
pub first-Contains : (change : Hold → Hold) (all : List Hold) (hold : Hold) (holds : List Hold) (x : Hold) → all ≡ hold ∷ holds →
    Contains (with_first change all) x → (x ≡ change hold) ⊎ Contains all x
first-Contains change all hold holds x is has =
    elim (Contains-cons x (change hold) holds (subst (λ hs. Contains (with_first change hs) x) is has)) [
      | inl new ↦ inl new
      | inr old ↦ inr (subst (λ hs. Contains hs x) (sym is) (suc old.0, omega (arith, old.1), old.2))
    ]

-- so a count changes by what it counts
pub first-count : (p : Hold → Bool) (change : Hold → Hold) (all : List Hold) (hold : Hold) (holds : List Hold) → all ≡ hold ∷ holds →
    count_by p (with_first change all) + cond (p hold) 1 0 ≡ count_by p all + cond (p (change hold)) 1 0
first-count p change all hold holds is =
    let changed : count_by p (with_first change all) ≡ count_by p (change hold ∷ holds) = ap (λ hs. count_by p (with_first change hs)) is in
    let before : count_by p all ≡ count_by p (hold ∷ holds) = ap (count_by p) is in
    let first : count_by p (change hold ∷ holds) ≡ cond (p (change hold)) 1 0 + count_by p holds = sum_by-cons (λ h. cond (p h) 1 0) (change hold) holds in
    let last : count_by p (hold ∷ holds) ≡ cond (p hold) 1 0 + count_by p holds = sum_by-cons (λ h. cond (p h) 1 0) hold holds in
    omega (arith, changed, before, first, last)

-- the region that was taken last is held
pub first-held : (holds : List Hold) (hold : Hold) (later : List Hold) → holds ≡ hold ∷ later → Contains holds hold
first-held holds hold later is = subst (λ hs. Contains hs hold) (sym is) (0, omega arith, refl)

-- one more cleared neighbour, which stands at the region's step or past it, is right
cleared-right : (net : Network) (chart : ChartLists) (start : StartLists) (words : List ℕ) (hold : Hold) (q : ℕ) → IsRight net chart start words hold →
    are_neighbours net.connectors chart.cut hold.region q ≡ true → hold.step ≤ step_of chart words q →
    IsRight net chart start words (record hold { cleared = q ∷ hold.cleared })
cleared-right net chart start words hold q was near past = record {
  known = was.known;
  around = λ p has. elim (Contains-cons p q hold.cleared has) [
    | inl new ↦ subst (λ n. are_neighbours net.connectors chart.cut hold.region n ≡ true) (sym new) near
    | inr before ↦ was.around p before
  ];
  cleared = λ p has. elim (Contains-cons p q hold.cleared has) [
    | inl new ↦ subst (λ n. hold.step ≤ step_of chart words n) (sym new) past
    | inr before ↦ was.cleared p before
  ];
  few = was.few;
  written = was.written;
  clear = λ p begun beside. let has = was.clear p begun beside in (suc has.0, omega (arith, has.1), has.2);
  whole = was.whole;
}

-- finding a neighbour at the region's step or past it keeps the rule
pub cleared-keeps : (terms : Terms) (s : FieldState) (id r q : ℕ) (c : List (ℕ × RegionValue)) (view : View) (hold : Hold) (holds : List Hold) →
    IsStanding terms s → get_elem? s.views id ≡ some view → view.share ≢ 0 → q < region_count terms.setup.now.chart.cut →
    view.holds ≡ hold ∷ holds → hold.region ≡ r → hold.known ≡ true → are_neighbours terms.setup.now.net.connectors terms.setup.now.chart.cut r q ≡ true →
    hold.step ≤ step_of terms.setup.now.chart s.words q →
    IsStanding terms (stepped s (step_place (widths_of terms.setup.now.chart) q) (step_of terms.setup.now.chart s.words q) id c (cleared view q (step_of terms.setup.now.chart s.words q)) keeps)
cleared-keeps terms s id r q c view hold holds old is shares within first region knows near past =
    let step : ℕ = step_of terms.setup.now.chart s.words q in
    let w : View = cleared view q step in
    let seat : Contains s.views view = Contains-elem s.views id view is in
    let own : IsHeld s.views view hold = record { seat = seat; held = first-held view.holds hold holds first } in
    let beside = subst (λ p. are_neighbours terms.setup.now.net.connectors terms.setup.now.chart.cut p q ≡ true) (sym region) near in
    let reads : IsReader terms s view w = record {
      quiet = seen-quiet terms s id q view w old is shares within refl;
      same = λ p. omega (arith, first-count (λ h. h.region == p) (clears q) view.holds hold holds first);
      more = λ p. omega (arith, first-count (λ h. (h.region == p) && h.known) (clears q) view.holds hold holds first);
      there = λ h has. elim (first-Contains (clears q) view.holds hold holds h first has) [
        | inl new ↦ subst (λ (x : Hold). x.region < region_count terms.setup.now.chart.cut) (sym new) (old.claims.there view hold own)
        | inr before ↦ old.claims.there view h record { seat = seat; held = before }
      ];
      right = λ h has known. elim (first-Contains (clears q) view.holds hold holds h first has) [
        | inl new ↦ subst (IsRight terms.setup.now.net terms.setup.now.chart terms.setup.now.start s.words) (sym new) (cleared-right terms.setup.now.net terms.setup.now.chart terms.setup.now.start s.words hold q (right view hold own knows) beside past)
        | inr before ↦ right view h record { seat = seat; held = before } known
      ];
    } in
    word_stays terms s (step_place (widths_of terms.setup.now.chart) q) s.homes (set s.views id w) (standing-read terms s s.homes id view w old is shares reads refl (λ p at none home. home))
  where
    clears : ℕ → Hold → Hold
    clears p h = record h { cleared = p ∷ h.cleared }

    right : AreRight terms.setup.now.net terms.setup.now.chart terms.setup.now.start s.words s.views
    right = all_right terms.setup.now.net terms.setup.now.chart terms.setup.now.start s old.steps old.rows

-- a view knows the steps of some of the regions that it holds
pub knows-some : (all : List Hold) (r : ℕ) → count_by (λ hold. (hold.region == r) && hold.known) all ≤ count_by (λ hold. hold.region == r) all
knows-some all r = sum_by-le-sum_by (λ hold. cond ((hold.region == r) && hold.known) 1 0) (λ hold. cond (hold.region == r) 1 0) all (λ hold. some_of (hold.region == r) hold.known)
  where
    some_of : (own known : Bool) → cond (own && known) 1 0 ≤ cond own 1 0
    some_of true true = omega arith
    some_of true false = omega arith
    some_of false known = omega arith

-- a sum is smaller where one item counts for less and none for more
pub sum-smaller : {X : Type 0} (f g : X → ℕ) (xs : List X) (i : ℕ) (x : X) → get_elem? xs i ≡ some x → ((y : X) → f y ≤ g y) → f x < g x → sum_by f xs < sum_by g xs
sum-smaller f g [] i x is each less = absurd cc
sum-smaller f g (y ∷ ys) zero x is each less =
    let same : y ≡ x = some-injective y x is in
    omega (arith, less, ap f same, ap g same, sum_by-cons f y ys, sum_by-cons g y ys, sum_by-le-sum_by f g ys each)
sum-smaller f g (y ∷ ys) (suc i) x is each less =
    omega (arith, each y, sum_by-cons f y ys, sum_by-cons g y ys, sum-smaller f g ys i x is each less)

-- of a region that was just taken no view knows the step
pub just-taken : (terms : Terms) (s : FieldState) (id r : ℕ) (view : View) (holds : List Hold) → IsStanding terms s → get_elem? s.views id ≡ some view →
    view.holds ≡ fresh r ∷ holds → knowers s.views r ≡ 0
just-taken terms s id r view holds old is first =
    let own : (r == r) ≡ true = eq-eqb r r refl in
    let held : held_in view r ≡ cond (r == r) 1 0 + count_by (λ (hold : Hold). hold.region == r) holds =
    ap (count_by (λ hold. hold.region == r)) first ∙ sum_by-cons (λ (hold : Hold). cond (hold.region == r) 1 0) (fresh r) holds in
    let knew : known_in view r ≡ cond ((r == r) && false) 1 0 + count_by (λ (hold : Hold). (hold.region == r) && hold.known) holds =
    ap (count_by (λ hold. (hold.region == r) && hold.known)) first ∙ sum_by-cons (λ (hold : Hold). cond ((hold.region == r) && hold.known) 1 0) (fresh r) holds in
    let one : ◌≡◌ {A = ℕ} (cond (r == r) 1 0) 1 = ap (λ b. cond b 1 0) own in
    let unknown : ◌≡◌ {A = ℕ} (cond ((r == r) && false) 1 0) 0 = ap (λ b. cond (b && false) 1 0) own in
    let fewer = sum-smaller (λ v. known_in v r) (λ v. held_in v r) s.views id view is (λ v. knows-some v.holds r) (omega (arith, held, knew, one, unknown, knows-some holds r)) in
    omega (arith, fewer, old.claims.one r)

-- what the rule says of a region that was just taken and whose step was read
fresh-right : (net : Network) (chart : ChartLists) (start : StartLists) (words : List ℕ) (r : ℕ) →
    IsRight net chart start words (known_at (fresh r) (step_of chart words r))
fresh-right net chart start words r = record {
  known = refl;
  around = λ q has. absurd (omega (arith, has.1));
  cleared = λ q has. absurd (omega (arith, has.1));
  few = omega arith;
  written = λ j done. absurd (omega (arith, done));
  clear = λ q begun near. elim begun [
    | inl written ↦ absurd (written refl)
    | inr published ↦ absurd cc
  ];
  whole = λ published. absurd cc;
}

-- the look at a region that was just taken finds it at home as it stands, and taking it out of its slot keeps the rule
pub found_at-keeps : (terms : Terms) (s : FieldState) (id r : ℕ) (c : List (ℕ × RegionValue)) (view : View) (hold : Hold) (holds : List Hold) →
    IsStanding terms s → get_elem? s.views id ≡ some view → view.share ≢ 0 → r < region_count terms.setup.now.chart.cut →
    view.holds ≡ hold ∷ holds → hold ≡ fresh r →
    (region : RegionValue) × IsHome s.homes r region ×
    Stands terms.setup.now r (step_of terms.setup.now.chart s.words r) region ×
    IsStanding terms (stepped s (step_place (widths_of terms.setup.now.chart) r) (step_of terms.setup.now.chart s.words r) id c (found_at view r (step_of terms.setup.now.chart s.words r)) (takes r region))
found_at-keeps terms s id r c view hold holds old is shares within some_first taken =
    let step : ℕ = step_of terms.setup.now.chart s.words r in
    let first : view.holds ≡ fresh r ∷ holds = some_first ∙ ap (λ h. h ∷ holds) taken in
    let knows : Hold → Hold = λ h. known_at h step in
    let w : View = found_at view r step in
    let seat : Contains s.views view = Contains-elem s.views id view is in
    let unknown : knowers s.views r ≡ 0 = just-taken terms s id r view holds old is first in
    let home = old.claims.at_home r within unknown in
    let right : AreRight terms.setup.now.net terms.setup.now.chart terms.setup.now.start s.words s.views = all_right terms.setup.now.net terms.setup.now.chart terms.setup.now.start s old.steps old.rows in
    let counts = λ (p : ℕ). first-count (λ h. (h.region == p) && h.known) knows view.holds (fresh r) holds first in
    let reads : IsReader terms s view w = record {
      quiet = seen-quiet terms s id r view w old is shares within refl;
      same = λ p. omega (arith, first-count (λ h. h.region == p) knows view.holds (fresh r) holds first);
      more = λ p. omega (arith, counts p, none_of (r == p));
      there = λ h has. elim (first-Contains knows view.holds (fresh r) holds h first has) [
        | inl new ↦ subst (λ (x : Hold). x.region < region_count terms.setup.now.chart.cut) (sym new) within
        | inr before ↦ old.claims.there view h record { seat = seat; held = before }
      ];
      right = λ h has known. elim (first-Contains knows view.holds (fresh r) holds h first has) [
        | inl new ↦ subst (IsRight terms.setup.now.net terms.setup.now.chart terms.setup.now.start s.words) (sym new) (fresh-right terms.setup.now.net terms.setup.now.chart terms.setup.now.start s.words r)
        | inr before ↦ right view h record { seat = seat; held = before } known
      ];
    } in
    let one : ◌≡◌ {A = ℕ} (cond ((r == r) && true) 1 0) 1 = ap (λ b. cond (b && true) 1 0) (eq-eqb r r refl) in
    let stay : (q : ℕ) (region : RegionValue) → knowers (set s.views id w) q ≡ 0 → IsHome s.homes q region → IsHome (set s.homes r none) q region = λ q region untaken there. elim (cases_eq q r) [
      | inl same ↦ absurd (omega (
        arith,
        one,
        counts r,
        none_of (r == r),
        sum-set (λ v. known_in v r) s.views id w view is,
        subst (λ p. knowers (set s.views id w) p ≡ 0) same untaken,
      ))
      | inr other ↦ set_else s.homes r q none other ∙ there
    ] in
    let new = standing-read terms s (set s.homes r none) id view w old is shares reads (length-set s.homes r none) stay in
    (home.0, home.1, home.2, word_stays terms s (step_place (widths_of terms.setup.now.chart) r) (set s.homes r none) (set s.views id w) new)
  where
    none_of : (own : Bool) → ◌≡◌ {A = ℕ} (cond (own && false) 1 0) 0
    none_of true = refl
    none_of false = refl
