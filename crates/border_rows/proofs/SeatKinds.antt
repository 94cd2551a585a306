-- A field opens under the rule, and cutting a seat in two and joining two seats keeps it.
use Rattle.std.specs.Prelude.{slice_index, sum_by, count_by, max, ◌==◌, ◌&&◌}
use Rattle.std.specs.List.{Contains, range_with_len}
use Rattle.std.proofs.Common.{◌≡◌, ◌≢◌, ◌⊎◌, ℕ, zero, suc, ◌+◌, ◌-◌, ◌<◌, ◌≤◌, inl, inr, List, [], ◌∷◌, ◌++◌, length, map, get_or, set, refl, sym, ap, subst, ◌∙◌, arith}
use Rattle.std.proofs.lemmas.List.{length-append, length-map}
use Rattle.std.proofs.lemmas.List.Elements.{Contains-append_left, Contains-push_cases}
use Rattle.std.proofs.lemmas.List.FromFn.{fill_by_all, get_or-map-range_with_len, get_or-range_with_len, length-map-range_with_len, length-range_with_len}
use Rattle.std.proofs.lemmas.List.Sums.{sum_by-cons, sum_by_push}
use mathlib.Core.Option.{some}
use lib.ListN.{get_elem?}
use Rattle.step_plan.proofs.Sums.{sum_by-zero}
use Rattle.network_file.specs.Network.{Network}
use Rattle.region_cut.specs.Chart.{ChartLists}
use Rattle.region_cut.specs.Cuttings.{region_count}
use Rattle.region_cut.specs.LawfulSteps.{AreLawful}
use Rattle.region_step.specs.Grid.{grid_held}
use Rattle.region_step.specs.Region.{RegionValue}
use Rattle.region_step.specs.Setup.{SetupValue}
use Rattle.region_step.specs.Standing.{AllStand, Stands}
use Rattle.region_step.specs.Start.{StartLists}
use Rattle.atomic_table.specs.Table.{opening}
use Rattle.atomic_table.proofs.Lists.{at_map, set_else, some_there}
use Rattle.border_rows.specs.Kinds.{kept, shared_off, spent, together, united}
use Rattle.border_rows.specs.Places.{width_at, widths_of, words_of}
use Rattle.border_rows.specs.Standing.{Claims, Counts, FieldState, IsHome, IsSpent, IsStanding, steps_made}
use Rattle.border_rows.specs.Views.{IsHeld, holders, knowers, times_in}
use Rattle.border_rows.specs.Words.{border_cell, border_word, claim_of, step_of, steps_of}
use Rattle.border_rows.specs.declared.view.Hold.{Hold}
use Rattle.border_rows.specs.declared.view.Terms.{Terms}
use Rattle.border_rows.specs.declared.view.View.{View}
use Rattle.border_rows.proofs.Keeping.{AreRight, all_right, neighbours-there, old-rows, rows-right, steps-right}
use Rattle.border_rows.proofs.Logs.{times_in-append, times_made-none}
use Rattle.border_rows.proofs.ViewUpdates.{Contains-elem, Contains-set, set-Contains, set-keeps, sum-set}

-- the words and regions of a field that opens: no region is taken, each stands at the start's step, its row of that step
-- and, past step 0, of the step before are there, and it is at home
pub record IsOpening (setup : SetupValue) (words : List ℕ) (regions : List RegionValue) : Type 0 where
  pub long : length words ≡ words_of (widths_of setup.chart)
  pub free : (r : ℕ) → r < region_count setup.chart.cut → claim_of setup.chart words r ≡ 0
  pub steps : (r : ℕ) → r < region_count setup.chart.cut → step_of setup.chart words r ≡ slice_index setup.start.steps r
  pub now : (r j : ℕ) → r < region_count setup.chart.cut → j < width_at (widths_of setup.chart) r →
      border_word setup.chart words r (slice_index setup.start.steps r) j ≡ grid_held setup.net setup.chart.cut setup.start (slice_index setup.start.steps r) (border_cell setup.chart r j)
  pub before : (r t j : ℕ) → r < region_count setup.chart.cut → j < width_at (widths_of setup.chart) r → slice_index setup.start.steps r ≡ t + 1 →
      border_word setup.chart words r t j ≡ grid_held setup.net setup.chart.cut setup.start t (border_cell setup.chart r j)
  pub homes : AllStand setup setup.start.steps regions

-- the view of its one seat
pub record IsFirst (terms : Terms) (view : View) : Type 0 where
  pub alike : view.terms ≡ terms ∷ []
  pub share : view.share ≡ terms.seats
  pub seen : view.seen ≡ terms.setup.now.start.steps
  pub log : view.log ≡ []
  pub reach : view.reach ≡ 0
  pub holds : view.holds ≡ []

-- an item of a list of one
one-Contains : {X : Type 0} (x y : X) → Contains (x ∷ []) y → y ≡ x
one-Contains x y (zero, within, is) = sym is
one-Contains x y (suc k, within, is) = absurd (omega (arith, within))

-- an item at its place
elem-get_or : {X : Type 0} (xs : List X) (i : ℕ) (d : X) → i < length xs → get_elem? xs i ≡ some (get_or xs i d)
elem-get_or [] i d within = absurd (omega (arith, within))
elem-get_or (x ∷ xs) zero d within = refl
elem-get_or (x ∷ xs) (suc i) d within = elem-get_or xs i d (omega (arith, within))

-- the first view holds nothing
first-none : (terms : Terms) (v view : View) (hold : Hold) → IsFirst terms v → IsHeld (v ∷ []) view hold → ⊥
first-none terms v view hold first held =
    let own : Contains v.holds hold = subst (λ (u : View). Contains u.holds hold) (one-Contains v view held.seat) held.held in
    let nothing : Contains [] hold = subst (λ holds. Contains holds hold) first.holds own in
    omega (arith, nothing.1)

-- a field opens with the steps of the start
steps_of-start : (setup : SetupValue) (words : List ℕ) (regions : List RegionValue) →
    AreLawful setup.net setup.chart.cut setup.start.steps → IsOpening setup words regions → steps_of setup.chart words ≡ setup.start.steps
steps_of-start setup words regions lawful opens =
    sym (fill_by_all (step_of setup.chart words) setup.start.steps (region_count setup.chart.cut) 0 lawful.one_each (λ k within. sym (opens.steps k (omega (arith, within)))))

-- and none is made
none-made : (setup : SetupValue) (words : List ℕ) (regions : List RegionValue) →
    IsOpening setup words regions → steps_made setup.chart setup.start words ≡ 0
none-made setup words regions opens =
    let range : List ℕ = range_with_len 0 (region_count setup.chart.cut) in
    sum_by-zero (λ r. step_of setup.chart words r - slice_index setup.start.steps r) range (λ k d within.
    let inside : k < region_count setup.chart.cut = omega (arith, within, length-range_with_len 0 (region_count setup.chart.cut)) in
    let is : get_or range k d ≡ k = get_or-range_with_len 0 (region_count setup.chart.cut) k d inside ∙ omega arith in
    subst (λ r. step_of setup.chart words r - slice_index setup.start.steps r ≤ 0) (sym is) (omega (arith, opens.steps k inside)))

-- a field opens under the rule
pub opening-stands : (terms : Terms) (words : List ℕ) (regions : List RegionValue) (v : View) →
    AreLawful terms.setup.now.net terms.setup.now.chart.cut terms.setup.now.start.steps →
    IsOpening terms.setup.now words regions → IsFirst terms v → terms.seats ≢ 0 →
    IsStanding terms (opening words regions v)
opening-stands terms words regions v lawful opens first seats =
    let net : Network = terms.setup.now.net in
    let chart : ChartLists = terms.setup.now.chart in
    let start : StartLists = terms.setup.now.start in
    record {
      claims = record {
        words = opens.long;
        homes = length-map regions some ∙ opens.homes.one_each;
        counted = λ r within. opens.free r within ∙ sym (held r);
        one = λ r. omega (arith, held r);
        there = λ view hold holds. absurd (first-none terms v view hold first holds);
        at_home = λ r within unknown. home r within;
      };
      steps = steps-right net chart start (opening words regions v) (subst (AreLawful net chart.cut) (sym (steps_of-start terms.setup.now words regions lawful opens)) lawful)
          (λ r within. omega (arith, opens.steps r within)) right;
      rows = rows-right net chart start (opening words regions v) record {
        now = λ r j within inside.
            subst (λ t. border_word chart words r t j ≡ grid_held net chart.cut start t (border_cell chart r j)) (sym (opens.steps r within)) (opens.now r j within inside);
        before = λ r q t j near low high inside.
            let both = neighbours-there net chart r q near in
            opens.before r t j both.0 inside (sym (opens.steps r both.0) ∙ high);
      } right;
      counts = record {
        lengths = λ view has some. ap (λ (u : View). length u.seen) (one-Contains v view has) ∙ ap length first.seen ∙ lawful.one_each;
        seen = λ view r has within.
            omega (arith, ap (λ (u : View). slice_index u.seen r) (one-Contains v view has), ap (λ seen. slice_index seen r) first.seen, opens.steps r within);
        shares = omega (arith, sum_by-cons (λ (u : View). u.share) v [], first.share);
        spent = λ view has none. absurd (seats (omega (arith, ap (λ (u : View). u.share) (one-Contains v view has), first.share, none)));
        moves = omega (arith, sum_by-cons (λ (u : View). length u.log) v [], ap length first.log, none-made terms.setup.now words regions opens);
        logged = λ r step. omega (
          arith,
          sum_by-cons (λ (u : View). times_in u.log r step) v [],
          ap (λ log. times_in log r step) first.log,
          times_made-none chart start words r step opens.steps,
        );
        reach = λ r within. inl (omega (arith, opens.steps r within));
        alike = λ view has some. ap (λ (u : View). u.terms) (one-Contains v view has) ∙ first.alike;
      };
    }
  where
    right : AreRight terms.setup.now.net terms.setup.now.chart terms.setup.now.start words (v ∷ [])
    right view hold holds knows = absurd (first-none terms v view hold first holds)

    held : (r : ℕ) → holders (v ∷ []) r ≡ 0
    held r =
        let none : count_by (λ hold. hold.region == r) v.holds ≡ 0 = ap (count_by (λ (hold : Hold). hold.region == r)) first.holds in
        omega (arith, sum_by-cons (λ (u : View). count_by (λ hold. hold.region == r) u.holds) v [], none)

    home : (r : ℕ) → r < region_count terms.setup.now.chart.cut → (region : RegionValue) × IsHome (map some regions) r region ×
        Stands terms.setup.now r (step_of terms.setup.now.chart words r) region
    home r within =
        let inside : r < length regions = omega (arith, within, opens.homes.one_each) in
        let d : RegionValue = (some_there regions r inside).0 in
        let region : RegionValue = get_or regions r d in (
          region,
          at_map some regions r region (elem-get_or regions r d inside),
          subst (λ t. Stands terms.setup.now r t region) (sym (opens.steps r within)) (opens.homes.each r d inside),
        )

-- each of the views holds what some view held before
abbrev pub AreHeldBefore : (before after : List View) → Type 0
AreHeldBefore before after = (view : View) (hold : Hold) → IsHeld after view hold → (old : View) × IsHeld before old hold

-- with the words and the regions as they are, views that hold the same keep all of the rule but the counts
claims-same : (setup : SetupValue) (s : FieldState) (views : List View) → Claims setup s →
    ((r : ℕ) → holders views r ≡ holders s.views r) → ((r : ℕ) → knowers views r ≡ knowers s.views r) → AreHeldBefore s.views views →
    Claims setup record { words = s.words; homes = s.homes; views = views }
claims-same setup s views old held knew before = record {
  words = old.words;
  homes = old.homes;
  counted = λ r within. old.counted r within ∙ sym (held r);
  one = λ r. omega (arith, old.one r, held r);
  there = λ view hold holds. let was = before view hold holds in old.there was.0 hold was.1;
  at_home = λ r within unknown. old.at_home r within (sym (knew r) ∙ unknown);
}

pub standing-same : (terms : Terms) (s : FieldState) (views : List View) → IsStanding terms s →
    ((r : ℕ) → holders views r ≡ holders s.views r) → ((r : ℕ) → knowers views r ≡ knowers s.views r) → AreHeldBefore s.views views →
    Counts terms terms.setup.now.chart terms.setup.now.start terms.seats record { words = s.words; homes = s.homes; views = views } →
    IsStanding terms record { words = s.words; homes = s.homes; views = views }
standing-same terms s views old held knew before counts =
    let right : AreRight terms.setup.now.net terms.setup.now.chart terms.setup.now.start s.words views = λ view hold holds knows.
    let was = before view hold holds in
    all_right terms.setup.now.net terms.setup.now.chart terms.setup.now.start s old.steps old.rows was.0 hold was.1 knows in
    record {
      claims = claims-same terms.setup.now s views old.claims held knew before;
      steps = steps-right terms.setup.now.net terms.setup.now.chart terms.setup.now.start (record { words = s.words; homes = s.homes; views = views }) old.steps.lawful old.steps.started right;
      rows = rows-right terms.setup.now.net terms.setup.now.chart terms.setup.now.start (record { words = s.words; homes = s.homes; views = views })
          (old-rows terms.setup.now.net terms.setup.now.chart terms.setup.now.start s old.rows) right;
      counts = counts;
    }

-- the views after a seat is cut in two
abbrev split_views : (views : List View) → (id : ℕ) → View → List View
split_views views id view = set views id (kept view) ++ shared_off view ∷ []

split-cases : (views : List View) (id : ℕ) (view v : View) → Contains (split_views views id view) v → (v ≡ kept view) ⊎ (v ≡ shared_off view) ⊎ Contains views v
split-cases views id view v has = elim (Contains-push_cases (set views id (kept view)) (shared_off view) v has) [
  | inl first ↦ elim (Contains-set views id (kept view) v first) [
    | inl own ↦ inl own
    | inr before ↦ inr (inr before)
  ]
  | inr new ↦ inr (inl (sym new))
]

-- a sum over them
split-sum : (f : View → ℕ) (views : List View) (id : ℕ) (view : View) → get_elem? views id ≡ some view →
    sum_by f (split_views views id view) + f view ≡ sum_by f views + f (kept view) + f (shared_off view)
split-sum f views id view is = omega (arith, sum_by_push f (set views id (kept view)) (shared_off view), sum-set f views id (kept view) view is)

-- cutting a seat in two keeps the rule
pub split-keeps : (terms : Terms) (s : FieldState) (id : ℕ) (view : View) → IsStanding terms s → get_elem? s.views id ≡ some view → 2 ≤ view.share →
    IsStanding terms record { words = s.words; homes = s.homes; views = set s.views id (kept view) ++ shared_off view ∷ [] }
split-keeps terms s id view old is shares = standing-same terms s (split_views s.views id view) old held knew before record {
  lengths = λ v has some. elim (split-cases s.views id view v has) [
    | inl own ↦ ap (λ (u : View). length u.seen) own ∙ long
    | inr (inl new) ↦ ap (λ (u : View). length u.seen) new ∙ long
    | inr (inr other) ↦ old.counts.lengths v other some
  ];
  seen = λ v r has within. elim (split-cases s.views id view v has) [
    | inl own ↦ omega (arith, ap (λ (u : View). slice_index u.seen r) own, old.counts.seen view r seat within)
    | inr (inl new) ↦ omega (arith, ap (λ (u : View). slice_index u.seen r) new, old.counts.seen view r seat within)
    | inr (inr other) ↦ old.counts.seen v r other within
  ];
  shares = omega (arith, split-sum (λ (u : View). u.share) s.views id view is, old.counts.shares, shares);
  spent = λ v has none. elim (split-cases s.views id view v has) [
    | inl own ↦ absurd (omega (arith, ap (λ (u : View). u.share) own, none, shares))
    | inr (inl new) ↦ absurd (omega (arith, ap (λ (u : View). u.share) new, none))
    | inr (inr other) ↦ old.counts.spent v other none
  ];
  moves = omega (arith, split-sum (λ (u : View). length u.log) s.views id view is, old.counts.moves);
  logged = λ r step. omega (arith, split-sum (λ (u : View). times_in u.log r step) s.views id view is, old.counts.logged r step);
  reach = λ r within. elim (old.counts.reach r within) [
    | inl low ↦ inl low
    | inr far ↦ inr (elim (set-keeps s.views id (kept view) view far.0 is far.1) [
      | inl own ↦ (
        kept view,
        Contains-append_left (set s.views id (kept view)) (shared_off view ∷ []) (kept view) (set-Contains s.views id (kept view) view is),
        omega (arith, far.2, ap (λ (u : View). u.reach) own),
      )
      | inr other ↦ (far.0, Contains-append_left (set s.views id (kept view)) (shared_off view ∷ []) far.0 other, far.2)
    ])
  ];
  alike = λ v has some. elim (split-cases s.views id view v has) [
    | inl own ↦ ap (λ (u : View). u.terms) own ∙ alike
    | inr (inl new) ↦ ap (λ (u : View). u.terms) new ∙ alike
    | inr (inr other) ↦ old.counts.alike v other some
  ];
}
  where
    seat : Contains s.views view
    seat = Contains-elem s.views id view is

    long : length view.seen ≡ region_count terms.setup.now.chart.cut
    long = old.counts.lengths view seat (λ none. omega (arith, none, shares))

    alike : view.terms ≡ terms ∷ []
    alike = old.counts.alike view seat (λ none. omega (arith, none, shares))

    held : (r : ℕ) → holders (split_views s.views id view) r ≡ holders s.views r
    held r = omega (arith, split-sum (λ (u : View). count_by (λ hold. hold.region == r) u.holds) s.views id view is)

    knew : (r : ℕ) → knowers (split_views s.views id view) r ≡ knowers s.views r
    knew r = omega (arith, split-sum (λ (u : View). count_by (λ hold. (hold.region == r) && hold.known) u.holds) s.views id view is)

    before : AreHeldBefore s.views (split_views s.views id view)
    before v hold held = elim (split-cases s.views id view v held.seat) [
      | inl own ↦ (view, record { seat = seat; held = subst (λ (u : View). Contains u.holds hold) own held.held })
      | inr (inl new) ↦ let nothing : Contains [] hold = subst (λ (u : View). Contains u.holds hold) new held.held in absurd (omega (arith, nothing.1))
      | inr (inr other) ↦ (v, record { seat = other; held = held.held })
    ]

-- the views after two seats are joined
abbrev joined_views : (views : List View) → (id : ℕ) → View → (at : ℕ) → View → List View
joined_views views id view at other = set (set views id (united view other)) at spent

joined-cases : (views : List View) (id : ℕ) (view : View) (at : ℕ) (other v : View) → Contains (joined_views views id view at other) v →
    (v ≡ spent) ⊎ (v ≡ united view other) ⊎ Contains views v
joined-cases views id view at other v has = elim (Contains-set (set views id (united view other)) at spent v has) [
  | inl gone ↦ inl gone
  | inr first ↦ inr (Contains-set views id (united view other) v first)
]

-- a sum over them
joined-sum : (f : View → ℕ) (views : List View) (id : ℕ) (view : View) (at : ℕ) (other : View) → get_elem? views id ≡ some view →
    get_elem? (set views id (united view other)) at ≡ some other →
    sum_by f (joined_views views id view at other) + f view + f other ≡ sum_by f views + f (united view other) + f spent
joined-sum f views id view at other is also =
    omega (arith, sum-set f views id (united view other) view is, sum-set f (set views id (united view other)) at spent other also)

-- what is put together of two lists stands at its place
together-at : (f : ℕ → ℕ → ℕ) (xs ys : List ℕ) (r : ℕ) → r < length xs → slice_index (together f xs ys) r ≡ f (slice_index xs r) (slice_index ys r)
together-at f xs ys r within = get_or-map-range_with_len (λ i. f (slice_index xs i) (slice_index ys i)) 0 (length xs) r r 0 within (omega arith)

-- joining two seats that hold no region keeps the rule
pub join-keeps : (terms : Terms) (s : FieldState) (id : ℕ) (view : View) (at : ℕ) (other : View) → IsStanding terms s → get_elem? s.views id ≡ some view →
    at ≢ id → get_elem? (set s.views id (united view other)) at ≡ some other → view.share ≢ 0 → other.share ≢ 0 → other.holds ≡ [] →
    IsStanding terms record { words = s.words; homes = s.homes; views = set (set s.views id (united view other)) at spent }
join-keeps terms s id view at other old is apart also shares others empty = standing-same terms s (joined_views s.views id view at other) old held knew before record {
  lengths = λ v has some. elim (joined-cases s.views id view at other v has) [
    | inl gone ↦ absurd (some (ap (λ (u : View). u.share) gone))
    | inr (inl own) ↦ ap (λ (u : View). length u.seen) own ∙ length-map-range_with_len (λ r. max (slice_index view.seen r) (slice_index other.seen r)) 0 (length view.seen) ∙ long
    | inr (inr elsewhere) ↦ old.counts.lengths v elsewhere some
  ];
  seen = λ v r has within. elim (joined-cases s.views id view at other v has) [
    | inl gone ↦ omega (arith, ap (λ (u : View). slice_index u.seen r) gone, none-at r)
    | inr (inl own) ↦ omega (
      arith,
      ap (λ (u : View). slice_index u.seen r) own,
      together-at max view.seen other.seen r (omega (arith, long, within)),
      old.counts.seen view r seat within,
      old.counts.seen other r beside within,
    )
    | inr (inr elsewhere) ↦ old.counts.seen v r elsewhere within
  ];
  shares = omega (arith, joined-sum (λ (u : View). u.share) s.views id view at other is also, old.counts.shares);
  spent = λ v has none. elim (joined-cases s.views id view at other v has) [
    | inl gone ↦ subst IsSpent (sym gone) record { holds = refl; seen = λ r. none-at r; log = refl; reach = refl }
    | inr (inl own) ↦ absurd (omega (arith, ap (λ (u : View). u.share) own, none, shares))
    | inr (inr elsewhere) ↦ old.counts.spent v elsewhere none
  ];
  moves = omega (arith, joined-sum (λ (u : View). length u.log) s.views id view at other is also, length-append view.log other.log, old.counts.moves);
  logged = λ r step. omega (
    arith,
    joined-sum (λ (u : View). times_in u.log r step) s.views id view at other is also,
    times_in-append view.log other.log r step,
    old.counts.logged r step,
  );
  reach = λ r within. elim (old.counts.reach r within) [
    | inl low ↦ inl low
    | inr far ↦ inr (elim (set-keeps s.views id (united view other) view far.0 is far.1) [
      | inl own ↦ (united view other, both, omega (arith, far.2, ap (λ (u : View). u.reach) own))
      | inr first ↦ elim (set-keeps (set s.views id (united view other)) at spent other far.0 also first) [
        | inl gone ↦ (united view other, both, omega (arith, far.2, ap (λ (u : View). u.reach) gone))
        | inr elsewhere ↦ (far.0, elsewhere, far.2)
      ]
    ])
  ];
  alike = λ v has some. elim (joined-cases s.views id view at other v has) [
    | inl gone ↦ absurd (some (ap (λ (u : View). u.share) gone))
    | inr (inl own) ↦ ap (λ (u : View). u.terms) own ∙ old.counts.alike view seat shares
    | inr (inr elsewhere) ↦ old.counts.alike v elsewhere some
  ];
}
  where
    seat : Contains s.views view
    seat = Contains-elem s.views id view is

    beside : Contains s.views other
    beside = Contains-elem s.views at other (sym (set_else s.views id at (united view other) apart) ∙ also)

    long : length view.seen ≡ region_count terms.setup.now.chart.cut
    long = old.counts.lengths view seat shares

    both : Contains (joined_views s.views id view at other) (united view other)
    both = elim (set-keeps (set s.views id (united view other)) at spent other (united view other) also (set-Contains s.views id (united view other) view is)) [
      | inl same ↦ absurd (shares (omega (arith, ap (λ (u : View). u.share) same)))
      | inr has ↦ has
    ]

    none-at : (r : ℕ) → slice_index spent.seen r ≡ 0
    none-at r = refl

    held : (r : ℕ) → holders (joined_views s.views id view at other) r ≡ holders s.views r
    held r = omega (arith, joined-sum (λ (u : View). count_by (λ hold. hold.region == r) u.holds) s.views id view at other is also, ap (λ holds. count_by (λ (hold : Hold). hold.region == r) holds) empty)

    knew : (r : ℕ) → knowers (joined_views s.views id view at other) r ≡ knowers s.views r
    knew r = omega (arith, joined-sum (λ (u : View). count_by (λ hold. (hold.region == r) && hold.known) u.holds) s.views id view at other is also, ap (λ holds. count_by (λ (hold : Hold). (hold.region == r) && hold.known) holds) empty)

    before : AreHeldBefore s.views (joined_views s.views id view at other)
    before v hold held = elim (joined-cases s.views id view at other v held.seat) [
      | inl gone ↦ let none : Contains spent.holds hold = subst (λ (u : View). Contains u.holds hold) gone held.held in absurd (omega (arith, none.1))
      | inr (inl own) ↦ (view, record { seat = seat; held = subst (λ (u : View). Contains u.holds hold) own held.held })
      | inr (inr elsewhere) ↦ (v, record { seat = elsewhere; held = held.held })
    ]
