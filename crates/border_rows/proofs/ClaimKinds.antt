-- A step that takes a region, finds it taken or frees it keeps the rule; a seat with all shares never finds one taken.
use Rattle.std.specs.Prelude.{slice_index, sum_by, ◌==◌, ◌&&◌, if◌then◌else◌}
use Rattle.std.specs.List.{Contains, count_by}
use Rattle.std.proofs.Common.{◌≡◌, ◌≢◌, ◌⊎◌, ℕ, suc, ◌+◌, ◌<◌, ◌≤◌, inl, inr, Bool, true, List, [], ◌∷◌, length, get_or, set, refl, sym, ap, subst, ◌∙◌, arith}
use Rattle.std.proofs.Math.Bool.{and-false}
use Rattle.std.proofs.lemmas.Bool.{cases_eq, eq-eqb, false≢true, ne_eqb}
use Rattle.std.proofs.lemmas.List.{length-set}
use Rattle.std.proofs.lemmas.List.Sums.{get_or-le-sum_by, sum_by-cons}
use Rattle.step_plan.proofs.Sums.{count_by-cons}
use mathlib.Core.Option.{some}
use mathlib.Core.Option as maybe
use lib.ListN.{get_elem?}
use Rattle.atomic_table.specs.Table.{gives, keeps, stepped}
use Rattle.atomic_table.proofs.Lists.{set_else, set_here}
use Rattle.region_cut.specs.Chart.{ChartLists, IsChart}
use Rattle.region_cut.specs.Cuttings.{region_count}
use Rattle.region_step.specs.Region.{RegionValue}
use Rattle.region_step.specs.Standing.{Stands}
use Rattle.border_rows.specs.Kinds.{found_taken, fresh, freed, gathered, later_of, taken}
use Rattle.border_rows.specs.Places.{claim_place, widths_of}
use Rattle.border_rows.specs.Standing.{Counts, FieldState, IsHome, IsSpent, IsStanding}
use Rattle.border_rows.specs.Views.{IsHeld, holders, knowers}
use Rattle.border_rows.specs.Words.{claim_of, step_of}
use Rattle.border_rows.specs.declared.view.Hold.{Hold}
use Rattle.border_rows.specs.declared.view.Terms.{Terms}
use Rattle.border_rows.specs.declared.view.View.{View}
use Rattle.border_rows.proofs.ChartWidths.{length-widths_of}
use Rattle.border_rows.proofs.Counting.{IsQuiet, counts-after, quiet-counted}
use Rattle.border_rows.proofs.Keeping.{OldHolds, SameRows, SameSteps, standing-kept}
use Rattle.border_rows.proofs.LookKinds.{first-held, same-keeps}
use Rattle.border_rows.proofs.ViewUpdates.{Contains-cons, Contains-elem, Contains-set, set-keeps, sum-set}
use Rattle.border_rows.proofs.WordUpdates.{claim-set, claim-set-border, claim-set-other, claim-set-step}

-- how often region r stands among a view's holds, and how often with its step known
abbrev pub times_held : List Hold → (r : ℕ) → ℕ
times_held holds r = count_by (λ hold. hold.region == r) holds

abbrev pub times_known : List Hold → (r : ℕ) → ℕ
times_known holds r = count_by (λ hold. (hold.region == r) && hold.known) holds

-- a region that is taken counts where the test takes it
taken-count : (p : Hold → Bool) (views : List View) (id r : ℕ) (view : View) → get_elem? views id ≡ some view →
    sum_by (λ v. count_by p v.holds) (set views id (taken view r)) ≡ sum_by (λ v. count_by p v.holds) views + (if p (fresh r) then 1 else 0)
taken-count p views id r view is = omega (arith, sum-set (λ v. count_by p v.holds) views id (taken view r) view is, count_by-cons p (fresh r) view.holds)

-- it has one holder more
taken-holders : (views : List View) (id r : ℕ) (view : View) → get_elem? views id ≡ some view → holders (set views id (taken view r)) r ≡ holders views r + 1
taken-holders views id r view is = rw (eq-eqb r r refl) at (taken-count (λ h. h.region == r) views id r view is)

-- another has as many
taken-holders-other : (views : List View) (id r q : ℕ) (view : View) → get_elem? views id ≡ some view → q ≢ r → holders (set views id (taken view r)) q ≡ holders views q
taken-holders-other views id r q view is other = omega (arith, rw (ne_eqb r q (λ same. other (sym same))) at (taken-count (λ h. h.region == q) views id r view is))

-- and as many know the step of each
taken-knowers : (views : List View) (id r q : ℕ) (view : View) → get_elem? views id ≡ some view → knowers (set views id (taken view r)) q ≡ knowers views q
taken-knowers views id r q view is = omega (arith, rw (and-false (r == q)) at (taken-count (λ h. (h.region == q) && h.known) views id r view is))

-- a region that is freed counts where the test took it
freed-count : (p : Hold → Bool) (views : List View) (id : ℕ) (view : View) (hold : Hold) (holds : List Hold) → get_elem? views id ≡ some view → view.holds ≡ hold ∷ holds →
    sum_by (λ v. count_by p v.holds) (set views id (freed view)) + (if p hold then 1 else 0) ≡ sum_by (λ v. count_by p v.holds) views
freed-count p views id view hold holds is has =
    let before : count_by p view.holds ≡ (if p hold then 1 else 0) + count_by p holds = ap (count_by p) has ∙ count_by-cons p hold holds in
    let after : count_by p (later_of view.holds) ≡ count_by p holds = ap (λ l. count_by p (later_of l)) has in
    omega (arith, sum-set (λ v. count_by p v.holds) views id (freed view) view is, before, after)

-- it has one holder less
freed-holders : (views : List View) (id r : ℕ) (view : View) (hold : Hold) (holds : List Hold) → get_elem? views id ≡ some view →
    view.holds ≡ hold ∷ holds → hold.region ≡ r → holders (set views id (freed view)) r + 1 ≡ holders views r
freed-holders views id r view hold holds is has own = rw (eq-eqb hold.region r own) at (freed-count (λ h. h.region == r) views id view hold holds is has)

-- another has as many
freed-holders-other : (views : List View) (id q : ℕ) (view : View) (hold : Hold) (holds : List Hold) → get_elem? views id ≡ some view →
    view.holds ≡ hold ∷ holds → hold.region ≢ q → holders (set views id (freed view)) q ≡ holders views q
freed-holders-other views id q view hold holds is has other = omega (arith, rw (ne_eqb hold.region q other) at (freed-count (λ h. h.region == q) views id view hold holds is has))

-- and as many know its step
freed-knowers-other : (views : List View) (id q : ℕ) (view : View) (hold : Hold) (holds : List Hold) → get_elem? views id ≡ some view →
    view.holds ≡ hold ∷ holds → hold.region ≢ q → knowers (set views id (freed view)) q ≡ knowers views q
freed-knowers-other views id q view hold holds is has other =
    omega (arith, rw (ne_eqb hold.region q other) at (freed-count (λ h. (h.region == q) && h.known) views id view hold holds is has))

-- what is held once a view holds no more than the one in whose place it stands was held before
pub held-set : (views : List View) (id : ℕ) (view w v : View) (hold : Hold) → get_elem? views id ≡ some view →
    (Contains w.holds hold → Contains view.holds hold) → IsHeld (set views id w) v hold → (old : View) × IsHeld views old hold
held-set views id view w v hold is less held = elim (Contains-set views id w v held.seat) [
  | inl new ↦ (view, record { seat = Contains-elem views id view is; held = less (subst (λ x. Contains x.holds hold) new held.held) })
  | inr old ↦ (v, record { seat = old; held = held.held })
]

-- what is held once a region is taken is that region, just taken, or was held before
held-taken : (views : List View) (id r : ℕ) (view v : View) (hold : Hold) → get_elem? views id ≡ some view →
    IsHeld (set views id (taken view r)) v hold → (hold ≡ fresh r) ⊎ ((old : View) × IsHeld views old hold)
held-taken views id r view v hold is held = elim (Contains-set views id (taken view r) v held.seat) [
  | inl new ↦ elim (Contains-cons hold (fresh r) view.holds (subst (λ x. Contains x.holds hold) new held.held)) [
    | inl first ↦ inl first
    | inr later ↦ inr (view, record { seat = Contains-elem views id view is; held = later })
  ]
  | inr old ↦ inr (v, record { seat = old; held = held.held })
]

-- what is held once the region taken last is given back was held before
later-held : (holds : List Hold) (hold : Hold) → Contains (later_of holds) hold → Contains holds hold
later-held [] hold has = has
later-held (first ∷ holds) hold (k, within, is) = (suc k, omega (arith, within), is)

-- a region that is there has words
pub within-widths : (chart : ChartLists) (r : ℕ) → IsChart chart → r < region_count chart.cut → r < length (widths_of chart)
within-widths chart r sound within = omega (arith, length-widths_of chart sound, within)

-- a claim word says nothing of the steps
pub claim-steps : (chart : ChartLists) (words : List ℕ) (r n : ℕ) → IsChart chart → r < region_count chart.cut →
    SameSteps chart words (set words (claim_place (widths_of chart) r) n)
claim-steps chart words r n sound within q there = claim-set-step chart words r q n (within-widths chart r sound within) (within-widths chart q sound there)

-- nor of the rows
pub claim-rows : (chart : ChartLists) (words : List ℕ) (r n : ℕ) → IsChart chart → r < region_count chart.cut →
    SameRows chart words (set words (claim_place (widths_of chart) r) n)
claim-rows chart words r n sound within q t j there inside =
    claim-set-border chart words r q t j n (within-widths chart r sound within) (within-widths chart q sound there) inside

-- a view has published nothing more that differs from another in none of what is counted, where no step is published
alike-quiet : (terms : Terms) (s : FieldState) (words : List ℕ) (id : ℕ) (view w : View) → Counts terms terms.setup.now.chart terms.setup.now.start terms.seats s → get_elem? s.views id ≡ some view →
    SameSteps terms.setup.now.chart s.words words → w ≡ record w { terms = view.terms; share = view.share; log = view.log; reach = view.reach; seen = view.seen } → IsQuiet terms words view w
alike-quiet terms s words id view w old is steps same = record {
  alike = ap (λ (v : View). v.terms) same;
  share = ap (λ (v : View). v.share) same;
  log = ap (λ (v : View). v.log) same;
  reach = ap (λ (v : View). v.reach) same;
  long = ap (λ (v : View). length v.seen) same;
  seen = λ r within. omega (arith, ap (λ (v : View). slice_index v.seen r) same, old.seen view r (Contains-elem s.views id view is) within, steps r within);
}

-- so the counts stay
counts-kept : (terms : Terms) (s : FieldState) (words : List ℕ) (homes : List (maybe.Option RegionValue)) (id : ℕ) (view w : View) → Counts terms terms.setup.now.chart terms.setup.now.start terms.seats s →
    get_elem? s.views id ≡ some view → view.share ≢ 0 → SameSteps terms.setup.now.chart s.words words → w ≡ record w { terms = view.terms; share = view.share; log = view.log; reach = view.reach; seen = view.seen } →
    Counts terms terms.setup.now.chart terms.setup.now.start terms.seats (record { words = words; homes = homes; views = set s.views id w })
counts-kept terms s words homes id view w old is share steps same =
    counts-after terms s words homes id view w old is share (quiet-counted terms s.words words view w steps (alike-quiet terms s words id view w old is steps same))

-- a region that was free is taken
pub taken-keeps : (terms : Terms) (s : FieldState) (id r : ℕ) (view : View) (c : List (ℕ × RegionValue)) → IsStanding terms s → IsChart terms.setup.now.chart →
    get_elem? s.views id ≡ some view → view.share ≢ 0 → r < region_count terms.setup.now.chart.cut → claim_of terms.setup.now.chart s.words r ≡ 0 →
    IsStanding terms (stepped s (claim_place (widths_of terms.setup.now.chart) r) 1 id c (taken view r) keeps)
taken-keeps terms s id r view c old sound is some_share within free =
    let chart : ChartLists = terms.setup.now.chart in
    let words : List ℕ = set s.words (claim_place (widths_of chart) r) 1 in
    let after : FieldState = record { words = words; homes = s.homes; views = set s.views id (taken view r) } in
    let steps : SameSteps chart s.words words = claim-steps chart s.words r 1 sound within in
    let there : (v : View) (hold : Hold) → IsHeld after.views v hold → hold.region < region_count chart.cut =
    λ v hold held. elim (held-taken s.views id r view v hold is held) [
      | inl new ↦ subst (λ q. q < region_count chart.cut) (sym (ap (λ (h : Hold). h.region) new)) within
      | inr was ↦ old.claims.there was.0 hold was.1
    ] in
    let from : OldHolds s.views after.views =
    λ v hold held knows. elim (held-taken s.views id r view v hold is held) [
      | inl new ↦ absurd (false≢true (sym (ap (λ (h : Hold). h.known) new) ∙ knows))
      | inr was ↦ was
    ] in
    standing-kept terms s after old steps (claim-rows chart s.words r 1 sound within) from record {
      words = length-set s.words (claim_place (widths_of chart) r) 1 ∙ old.claims.words;
      homes = old.claims.homes;
      counted = λ q inside. elim (cases_eq q r) [
        | inl same ↦ subst (λ p. claim_of chart words p ≡ holders after.views p) (sym same)
            (omega (
              arith,
              claim-set chart s.words r 1 (within-widths chart r sound within) old.claims.words,
              old.claims.counted r within,
              free,
              taken-holders s.views id r view is,
            ))
        | inr other ↦
            claim-set-other chart s.words r q 1 (within-widths chart r sound within) (within-widths chart q sound inside) other ∙ old.claims.counted q inside ∙
            sym (taken-holders-other s.views id r q view is other)
      ];
      one = λ q. elim (cases_eq q r) [
        | inl same ↦ subst (λ p. holders after.views p ≤ 1) (sym same) (omega (arith, old.claims.counted r within, free, taken-holders s.views id r view is))
        | inr other ↦ omega (arith, old.claims.one q, taken-holders-other s.views id r q view is other)
      ];
      there = there;
      at_home = λ q inside none.
          let home = old.claims.at_home q inside (sym (taken-knowers s.views id r q view is) ∙ none) in
          (home.0, home.1, subst (λ t. Stands terms.setup.now q t home.0) (sym (steps q inside)) home.2);
    } (counts-kept terms s words s.homes id view (taken view r) old.counts is some_share steps refl)

-- a region that was taken is found so
pub found_taken-keeps : (terms : Terms) (s : FieldState) (id r : ℕ) (view : View) (c : List (ℕ × RegionValue)) → IsStanding terms s →
    get_elem? s.views id ≡ some view → view.share ≢ 0 →
    IsStanding terms
    (stepped s (claim_place (widths_of terms.setup.now.chart) r) (slice_index s.words (claim_place (widths_of terms.setup.now.chart) r)) id c (found_taken view r) keeps)
found_taken-keeps terms s id r view c old is some_share =
    same-keeps terms s (claim_place (widths_of terms.setup.now.chart) r) id c view (found_taken view r) old is some_share refl (alike-quiet terms s s.words id view (found_taken view r) old.counts is (λ q within. refl) refl)

-- a look at any word at a moment that a view remembers keeps the rule
pub gathered-keeps : (terms : Terms) (s : FieldState) (i id : ℕ) (c : List (ℕ × RegionValue)) (view : View) → IsStanding terms s → get_elem? s.views id ≡ some view → view.share ≢ 0 →
    IsStanding terms (stepped s i (slice_index s.words i) id c (gathered view) keeps)
gathered-keeps terms s i id c view old is some_share =
    same-keeps terms s i id c view (gathered view) old is some_share refl (alike-quiet terms s s.words id view (gathered view) old.counts is (λ q within. refl) refl)

-- a region that a seat holds with its slot, at the step that it has published, is given back
freed_with-keeps : (terms : Terms) (s : FieldState) (id r : ℕ) (view : View) (hold : Hold) (holds : List Hold) (region : RegionValue) (c : List (ℕ × RegionValue)) → IsStanding terms s →
    IsChart terms.setup.now.chart → get_elem? s.views id ≡ some view → view.share ≢ 0 → r < region_count terms.setup.now.chart.cut → view.holds ≡ hold ∷ holds → hold.region ≡ r →
    Stands terms.setup.now r (step_of terms.setup.now.chart s.words r) region →
    IsStanding terms (stepped s (claim_place (widths_of terms.setup.now.chart) r) 0 id ((r, region) ∷ c) (freed view) gives)
freed_with-keeps terms s id r view hold holds region c old sound is some_share within has own stands =
    let chart : ChartLists = terms.setup.now.chart in
    let words : List ℕ = set s.words (claim_place (widths_of chart) r) 0 in
    let homes : List (maybe.Option RegionValue) = set s.homes r (some region) in
    let after : FieldState = record { words = words; homes = homes; views = set s.views id (freed view) } in
    let steps : SameSteps chart s.words words = claim-steps chart s.words r 0 sound within in
    let from : (v : View) (h : Hold) → IsHeld after.views v h → (before : View) × IsHeld s.views before h =
    λ v h held. held-set s.views id view (freed view) v h is (later-held view.holds h) held in
    let there : (v : View) (h : Hold) → IsHeld after.views v h → h.region < region_count chart.cut =
    λ v h held. let was = from v h held in old.claims.there was.0 h was.1 in
    let fewer = freed-holders s.views id r view hold holds is has own in
    standing-kept terms s after old steps (claim-rows chart s.words r 0 sound within) (λ v h held knows. from v h held) record {
      words = length-set s.words (claim_place (widths_of chart) r) 0 ∙ old.claims.words;
      homes = length-set s.homes r (some region) ∙ old.claims.homes;
      counted = λ q inside. elim (cases_eq q r) [
        | inl same ↦ subst (λ p. claim_of chart words p ≡ holders after.views p) (sym same)
            (omega (arith, claim-set chart s.words r 0 (within-widths chart r sound within) old.claims.words, old.claims.one r, fewer))
        | inr other ↦
            claim-set-other chart s.words r q 0 (within-widths chart r sound within) (within-widths chart q sound inside) other ∙ old.claims.counted q inside ∙
            sym (freed-holders-other s.views id q view hold holds is has (λ same. other (sym same ∙ own)))
      ];
      one = λ q. elim (cases_eq q r) [
        | inl same ↦ subst (λ p. holders after.views p ≤ 1) (sym same) (omega (arith, old.claims.one r, fewer))
        | inr other ↦ omega (arith, old.claims.one q, freed-holders-other s.views id q view hold holds is has (λ same. other (sym same ∙ own)))
      ];
      there = there;
      at_home = λ q inside none. elim (cases_eq q r) [
        | inl same ↦ subst (λ p. (home : RegionValue) × IsHome homes p home × Stands terms.setup.now p (step_of chart words p) home) (sym same) (
          region,
          set_here s.homes r (some region) (omega (arith, within, old.claims.homes)),
          subst (λ t. Stands terms.setup.now r t region) (sym (steps r within)) stands,
        )
        | inr other ↦
            let home = old.claims.at_home q inside (sym (freed-knowers-other s.views id q view hold holds is has (λ same. other (sym same ∙ own))) ∙ none) in (
              home.0,
              set_else s.homes r q (some region) other ∙ home.1,
              subst (λ t. Stands terms.setup.now q t home.0) (sym (steps q inside)) home.2,
            )
      ];
    } (counts-kept terms s words homes id view (freed view) old.counts is some_share steps refl)

-- the same for all that the seat carries, where the slot is the first
pub freed-keeps : (terms : Terms) (s : FieldState) (id r : ℕ) (view : View) (hold : Hold) (holds : List Hold) (region : RegionValue) (c rest : List (ℕ × RegionValue)) → IsStanding terms s →
    IsChart terms.setup.now.chart → get_elem? s.views id ≡ some view → view.share ≢ 0 → r < region_count terms.setup.now.chart.cut → view.holds ≡ hold ∷ holds → hold.region ≡ r →
    c ≡ (r, region) ∷ rest → Stands terms.setup.now r (step_of terms.setup.now.chart s.words r) region →
    IsStanding terms (stepped s (claim_place (widths_of terms.setup.now.chart) r) 0 id c (freed view) gives)
freed-keeps terms s id r view hold holds region c rest old sound is some_share within has own carries stands =
    subst (λ l. IsStanding terms (stepped s (claim_place (widths_of terms.setup.now.chart) r) 0 id l (freed view) gives)) (sym carries)
    (freed_with-keeps terms s id r view hold holds region rest old sound is some_share within has own stands)

-- a region that a seat knows the step of is given back at the step that the seat knows it to stand at
pub freed_known-keeps : (terms : Terms) (s : FieldState) (id r : ℕ) (view : View) (hold : Hold) (holds : List Hold) (region : RegionValue) (c rest : List (ℕ × RegionValue)) → IsStanding terms s →
    IsChart terms.setup.now.chart → get_elem? s.views id ≡ some view → view.share ≢ 0 → view.holds ≡ hold ∷ holds → hold.region ≡ r → hold.known ≡ true →
    c ≡ (r, region) ∷ rest → Stands terms.setup.now r (if hold.published then hold.step + 1 else hold.step) region →
    IsStanding terms (stepped s (claim_place (widths_of terms.setup.now.chart) r) 0 id c (freed view) gives)
freed_known-keeps terms s id r view hold holds region c rest old sound is some_share has own knows carries stands =
    let held : IsHeld s.views view hold = record { seat = Contains-elem s.views id view is; held = first-held view.holds hold holds has } in
    let stood : step_of terms.setup.now.chart s.words r ≡ (if hold.published then hold.step + 1 else hold.step) =
    ap (step_of terms.setup.now.chart s.words) (sym own) ∙ old.steps.known view hold held knows in
    freed-keeps terms s id r view hold holds region c rest old sound is some_share (subst (λ q. q < region_count terms.setup.now.chart.cut) own (old.claims.there view hold held)) has own carries
    (subst (λ t. Stands terms.setup.now r t region) (sym stood) stands)

-- a sum of terms that are all 0
none-sum : {X : Type 0} (f : X → ℕ) (xs : List X) → ((x : X) → Contains xs x → f x ≡ 0) → sum_by f xs ≡ 0
none-sum f [] none = refl
none-sum f (x ∷ xs) none =
    let first : f x ≡ 0 = none x (0, omega arith, refl) in
    let later : sum_by f xs ≡ 0 = none-sum f xs (λ y has. none y (suc has.0, omega (arith, has.1), has.2)) in
    let all : sum_by f (x ∷ xs) ≡ f x + sum_by f xs = sum_by-cons f x xs in
    omega (arith, first, later, all)

-- beside a seat that has all shares the others have none
others-share : (terms : Terms) (s : FieldState) (id : ℕ) (view v : View) → IsStanding terms s → get_elem? s.views id ≡ some view → view.share ≡ terms.seats →
    Contains (set s.views id (record view { share = 0 })) v → v.share ≡ 0
others-share terms s id view v old is all (k, within, here) =
    let others : List View = set s.views id (record view { share = 0 }) in
    let rest = sum-set (λ (x : View). x.share) s.views id (record view { share = 0 }) view is in
    let least = get_or-le-sum_by (λ (x : View). x.share) others k v within in
    let own : (get_or others k v).share ≡ v.share = ap (λ (x : View). x.share) here in
    omega (arith, rest, all, old.counts.shares, least, own)

-- each view is that of the seat with all shares, or its seat is spent
pub whole_spent : (terms : Terms) (s : FieldState) (id : ℕ) (view v : View) → IsStanding terms s → get_elem? s.views id ≡ some view → view.share ≡ terms.seats → Contains s.views v →
    (v ≡ view) ⊎ IsSpent v
whole_spent terms s id view v old is all has = elim (set-keeps s.views id (record view { share = 0 }) view v is has) [
  | inl own ↦ inl own
  | inr other ↦ inr (old.counts.spent v has (others-share terms s id view v old is all other))
]

-- every other seat is spent
pub whole_spent-other : (terms : Terms) (s : FieldState) (id k : ℕ) (view v : View) → IsStanding terms s → get_elem? s.views id ≡ some view → view.share ≡ terms.seats → k ≢ id →
    get_elem? s.views k ≡ some v → IsSpent v
whole_spent-other terms s id k view v old is all other here =
    let has = Contains-elem (set s.views id (record view { share = 0 })) k v (set_else s.views id k (record view { share = 0 }) other ∙ here) in
    old.counts.spent v (Contains-elem s.views k v here) (others-share terms s id view v old is all has)

-- where the seat with all shares holds nothing, no view does
pub whole_holds : (terms : Terms) (s : FieldState) (id : ℕ) (view v : View) → IsStanding terms s → get_elem? s.views id ≡ some view → view.share ≡ terms.seats → view.holds ≡ [] →
    Contains s.views v → v.holds ≡ []
whole_holds terms s id view v old is all empty has = elim (whole_spent terms s id view v old is all has) [
  | inl own ↦ ap (λ (x : View). x.holds) own ∙ empty
  | inr gone ↦ gone.holds
]

-- no view knows a region's step then
pub whole_knowers : (terms : Terms) (s : FieldState) (id r : ℕ) (view : View) → IsStanding terms s → get_elem? s.views id ≡ some view → view.share ≡ terms.seats → view.holds ≡ [] →
    knowers s.views r ≡ 0
whole_knowers terms s id r view old is all empty =
    none-sum (λ (v : View). times_known v.holds r) s.views (λ v has. ap (λ l. times_known l r) (whole_holds terms s id view v old is all empty has))

-- where no hold is of a region, it stands among them never
not_held : (holds : List Hold) (r : ℕ) → ((hold : Hold) → Contains holds hold → hold.region ≢ r) → times_held holds r ≡ 0
not_held [] r others = refl
not_held (hold ∷ holds) r others =
    let first : times_held (hold ∷ holds) r ≡ 0 + times_held holds r =
    count_by-cons (λ h. h.region == r) hold holds ∙ ap (λ b. (if b then 1 else 0) + times_held holds r) (ne_eqb hold.region r (others hold (0, omega arith, refl))) in
    omega (arith, first, not_held holds r (λ h has. others h (suc has.0, omega (arith, has.1), has.2)))

-- the seat with all shares finds no claim word taken but of the regions that it holds itself
pub whole_claim : (terms : Terms) (s : FieldState) (id r : ℕ) (view : View) → IsStanding terms s → get_elem? s.views id ≡ some view → view.share ≡ terms.seats →
    ((hold : Hold) → Contains view.holds hold → hold.region ≢ r) → r < region_count terms.setup.now.chart.cut → claim_of terms.setup.now.chart s.words r ≡ 0
whole_claim terms s id r view old is all others within =
    old.claims.counted r within ∙
    none-sum (λ (v : View). times_held v.holds r) s.views
    (λ v has. elim (whole_spent terms s id view v old is all has) [
      | inl own ↦ ap (λ (x : View). times_held x.holds r) own ∙ not_held view.holds r others
      | inr gone ↦ ap (λ l. times_held l r) gone.holds
    ])
