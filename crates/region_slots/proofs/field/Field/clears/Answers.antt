use Rattle.std.specs.Prelude.{slice_index, slice_set}
use Rattle.std.specs.List.{Contains}
use Rattle.std.proofs.Common.{◌≡◌, ℕ, ◌<◌, ◌≤◌, ◌+◌, inl, inr, length, true, sym, ap, subst, ◌∙◌, arith, get_or}
use Rattle.std.proofs.lemmas.Bool.{cases_lt}
use Rattle.std.proofs.lemmas.List.{get_or-set_same}
use Rattle.std.proofs.lemmas.List.Elements.{Contains-get_or}
use Rattle.region_cut.specs.Chart.{ChartLists, list_at}
use Rattle.region_cut.specs.Cuttings.{region_count}
use Rattle.region_cut.specs.Neighbours.{are_neighbours}
use Rattle.border_rows.specs.Kinds.{cleared, found_short}
use Rattle.border_rows.specs.declared.view.Hold.{Hold}
use Rattle.border_rows.specs.declared.view.Terms.{Terms}
use Rattle.border_rows.specs.declared.view.View.{View}
use Rattle.border_rows.proofs.Keeping.{neighbours-there}
use Rattle.region_slots.specs.FieldView.{FieldValue, IsTableFor, IsWorkingAt}
use Rattle.region_slots.specs.Turning.{HasFallenShort, HasLooked, IsAt}
use Rattle.region_slots.proofs.Comparing.{same-hold}
use Rattle.region_slots.proofs.NeighbourLooks.{cleared-more, cleared-own, falls-short, later-set, looked-more, pair-same}
use Rattle.region_slots.proofs.Telling.{listed-near, near-listed}
use Rattle.region_slots.proofs.field.Field.clears.Goals as goal

pub load_neighbour_step-s-requires-clause-seat : goal.load_neighbour_step-s-requires-clause-seat
load_neighbour_step-s-requires-clause-seat c =
    let has = c.loop-k.invariant.3 c.requires.at.hold c.requires.at.works in
    record {
      table = c.loop-k.invariant.1 ∙ c.requires.seat.table;
      terms = has.still.alike.terms ∙ c.requires.seat.terms;
      share = λ none. c.requires.seat.share (sym has.still.alike.share ∙ none);
    }

pub load_neighbour_step-s-requires-clause-working : goal.load_neighbour_step-s-requires-clause-working
load_neighbour_step-s-requires-clause-working c =
    let terms : Terms = c.args.self.now.terms in
    let chart : c.self.inside.layout.now.chart ≡ terms.setup.now.chart = sym c.self.invariant.1 ∙ ap (λ field. field.terms.setup.now.chart) c.self.view_is in
    let field : IsTableFor terms c.args.self.now.table = subst (λ (f : FieldValue). IsTableFor f.terms f.table) c.self.view_is c.self.invariant.3 in
    let list : c.neighbours-neighbours.result.now ≡ list_at terms.setup.now.chart.neighbours c.args.region = c.neighbours-neighbours.ensures.list ∙ ap (λ (lists : ChartLists). list_at lists.neighbours c.args.region) chart in
    let at = c.requires.at in
    let has : HasLooked c.args.seat.now.me.0 c.loop-k.seat.me.0 at.hold = c.loop-k.invariant.3 at.hold at.works in
    let q : ℕ = get_or c.neighbours-neighbours.result.now c.loop-k.k 0 in
    let listed : Contains (list_at terms.setup.now.chart.neighbours c.args.region) q = subst (λ l. Contains l q) list (Contains-get_or c.neighbours-neighbours.result.now c.loop-k.k 0 c.loop-k-test.true) in
    let near : are_neighbours terms.setup.now.net.connectors terms.setup.now.chart.cut c.args.region q ≡ true = listed-near terms c.args.self.now.table c.args.region q field c.requires.there listed in
    (has.now, has.works, subst (λ r. are_neighbours terms.setup.now.net.connectors terms.setup.now.chart.cut r q ≡ true) (sym (has.region ∙ at.region)) near)

pub returns-then-s-step-clause-same : goal.returns-then-s-step-clause-same
returns-then-s-step-clause-same c =
    let has = c.loop-k.invariant.3 c.requires.at.hold c.requires.at.works in
    let told = c.load_neighbour_step-s.ensures.short has.now has.works (omega (arith, c.if-s-step.true, has.step, c.requires.at.step)) in
    (c.load_neighbour_step-s.ensures.same.0 ∙ c.loop-k.invariant.0, c.load_neighbour_step-s.ensures.same.1 ∙ c.loop-k.invariant.1, ap (λ m. m.1) told.0 ∙ c.loop-k.invariant.2)

pub returns-then-s-step-clause-short : goal.returns-then-s-step-clause-short
returns-then-s-step-clause-short c = λ p t is.
    let terms : Terms = c.args.self.now.terms in
    let chart : c.self.inside.layout.now.chart ≡ terms.setup.now.chart = sym c.self.invariant.1 ∙ ap (λ field. field.terms.setup.now.chart) c.self.view_is in
    let field : IsTableFor terms c.args.self.now.table = subst (λ (f : FieldValue). IsTableFor f.terms f.table) c.self.view_is c.self.invariant.3 in
    let list : c.neighbours-neighbours.result.now ≡ list_at terms.setup.now.chart.neighbours c.args.region = c.neighbours-neighbours.ensures.list ∙ ap (λ (lists : ChartLists). list_at lists.neighbours c.args.region) chart in
    let at = c.requires.at in
    let has = c.loop-k.invariant.3 at.hold at.works in
    let q : ℕ = get_or c.neighbours-neighbours.result.now c.loop-k.k 0 in
    let listed : Contains (list_at terms.setup.now.chart.neighbours c.args.region) q = subst (λ l. Contains l q) list (Contains-get_or c.neighbours-neighbours.result.now c.loop-k.k 0 c.loop-k-test.true) in
    let near : are_neighbours terms.setup.now.net.connectors terms.setup.now.chart.cut c.args.region q ≡ true = listed-near terms c.args.self.now.table c.args.region q field c.requires.there listed in
    let s : ℕ = c.load_neighbour_step-s.result in
    let told = c.load_neighbour_step-s.ensures.short has.now has.works (omega (arith, c.if-s-step.true, has.step, at.step)) in
    let view : c.load_neighbour_step-s.new.seat.me.0 ≡ found_short c.loop-k.seat.me.0 c.args.region q s =
    ap (λ m. m.0) told.0 ∙ ap (λ r. found_short c.loop-k.seat.me.0 r q s) (has.region ∙ at.region) in
    let short : HasFallenShort c.args.seat.now.me.0 (found_short c.loop-k.seat.me.0 c.args.region q s) c.args.region q s =
    falls-short c.args.seat.now.me.0 c.loop-k.seat.me.0 at.hold c.args.region q s has c.load_neighbour_step-s.ensures.later (omega (arith, (neighbours-there terms.setup.now.net terms.setup.now.chart c.args.region q near).1, has.still.alike.seen.long, c.requires.long)) in
    let there : IsAt (found_short c.loop-k.seat.me.0 c.args.region q s) c.args.region c.args.step =
    record {
      hold = has.now;
      works = record { later = has.works.later; holds = has.works.holds; known = has.works.known; early = has.works.early };
      region = has.region ∙ at.region;
      step = has.step ∙ at.step;
    } in
    let one : q ≡ p = (pair-same q s p t is).0 in
    let two : s ≡ t = (pair-same q s p t is).1 in
    let beside : ℕ → Type 0 = λ n. are_neighbours terms.setup.now.net.connectors terms.setup.now.chart.cut c.args.region n ≡ true in
    subst (λ n. HasFallenShort c.args.seat.now.me.0 c.load_neighbour_step-s.new.seat.me.0 c.args.region p n × (n + 1 ≡ c.args.step) × IsAt c.load_neighbour_step-s.new.seat.me.0 c.args.region c.args.step × beside p) two
    (subst (λ n. HasFallenShort c.args.seat.now.me.0 c.load_neighbour_step-s.new.seat.me.0 c.args.region n s × (s + 1 ≡ c.args.step) × IsAt c.load_neighbour_step-s.new.seat.me.0 c.args.region c.args.step × beside n) one
    (subst (λ (v : View). HasFallenShort c.args.seat.now.me.0 v c.args.region q s × (s + 1 ≡ c.args.step) × IsAt v c.args.region c.args.step × beside q) (sym view)
    (short, omega (arith, told.1, has.step, at.step), there, near)))

pub loop-k-preserved : goal.loop-k-preserved
loop-k-preserved c =
    let terms : Terms = c.args.self.now.terms in
    let chart : c.self.inside.layout.now.chart ≡ terms.setup.now.chart = sym c.self.invariant.1 ∙ ap (λ field. field.terms.setup.now.chart) c.self.view_is in
    let field : IsTableFor terms c.args.self.now.table = subst (λ (f : FieldValue). IsTableFor f.terms f.table) c.self.view_is c.self.invariant.3 in
    let list : c.neighbours-neighbours.result.now ≡ list_at terms.setup.now.chart.neighbours c.args.region = c.neighbours-neighbours.ensures.list ∙ ap (λ (lists : ChartLists). list_at lists.neighbours c.args.region) chart in
    let at = c.requires.at in
    let has : HasLooked c.args.seat.now.me.0 c.loop-k.seat.me.0 at.hold = c.loop-k.invariant.3 at.hold at.works in
    let q : ℕ = get_or c.neighbours-neighbours.result.now c.loop-k.k 0 in
    let listed : Contains (list_at terms.setup.now.chart.neighbours c.args.region) q = subst (λ l. Contains l q) list (Contains-get_or c.neighbours-neighbours.result.now c.loop-k.k 0 c.loop-k-test.true) in
    let near : are_neighbours terms.setup.now.net.connectors terms.setup.now.chart.cut c.args.region q ≡ true = listed-near terms c.args.self.now.table c.args.region q field c.requires.there listed in
    let s : ℕ = c.load_neighbour_step-s.result in
    let past : c.args.step ≤ s = omega (arith, c.if-s-step.false) in
    let told = c.load_neighbour_step-s.ensures.near has.now has.works (omega (arith, past, has.step, at.step)) in
    let view : c.load_neighbour_step-s.new.seat.me.0 ≡ cleared c.loop-k.seat.me.0 q s = ap (λ m. m.0) told in
    let there : q < region_count terms.setup.now.chart.cut = (neighbours-there terms.setup.now.net terms.setup.now.chart c.args.region q near).1 in
    let own : slice_index (slice_set c.loop-k.seat.me.0.seen q s) q ≡ s = get_or-set_same c.loop-k.seat.me.0.seen q s 0 (omega (arith, there, has.still.alike.seen.long, c.requires.long)) in (
      c.load_neighbour_step-s.ensures.same.0 ∙ c.loop-k.invariant.0,
      c.load_neighbour_step-s.ensures.same.1 ∙ c.loop-k.invariant.1,
      ap (λ m. m.1) told ∙ c.loop-k.invariant.2,
      (λ hold works. subst (λ (v : View). HasLooked c.args.seat.now.me.0 v hold) (sym view) (looked-more c.args.seat.now.me.0 c.loop-k.seat.me.0 hold q s (c.loop-k.invariant.3 hold works) c.load_neighbour_step-s.ensures.later)),
      (λ hold i works before.
          let now_works : IsWorkingAt (cleared c.loop-k.seat.me.0 q s) hold = subst (λ (v : View). IsWorkingAt v hold) view works in
          elim (cases_lt i c.loop-k.k) [
            | inl lower ↦ cleared-more c.loop-k.seat.me.0 hold has.now q s (slice_index c.neighbours-neighbours.result.now i) has.works now_works (c.loop-k.invariant.4 has.now i has.works lower)
            | inr other ↦
                let same : i ≡ c.loop-k.k = omega (arith, before, other) in
                subst (λ j. Contains hold.cleared (slice_index c.neighbours-neighbours.result.now j)) (sym same) (cleared-own c.loop-k.seat.me.0 hold has.now q s has.works now_works)
          ]),
      (λ i before. subst (λ (v : View). c.args.step ≤ slice_index v.seen (slice_index c.neighbours-neighbours.result.now i)) (sym view)
          (elim (cases_lt i c.loop-k.k) [
            | inl lower ↦ omega (arith, c.loop-k.invariant.5 i lower, later-set c.loop-k.seat.me.0.seen q s (slice_index c.neighbours-neighbours.result.now i) c.load_neighbour_step-s.ensures.later)
            | inr other ↦
                let same : i ≡ c.loop-k.k = omega (arith, before, other) in
                subst (λ j. c.args.step ≤ slice_index (slice_set c.loop-k.seat.me.0.seen q s) (slice_index c.neighbours-neighbours.result.now j)) (sym same) (omega (arith, own, past))
          ])),
    )

pub returns-clause-cleared : goal.returns-clause-cleared
returns-clause-cleared c = λ none.
    let terms : Terms = c.args.self.now.terms in
    let chart : c.self.inside.layout.now.chart ≡ terms.setup.now.chart = sym c.self.invariant.1 ∙ ap (λ field. field.terms.setup.now.chart) c.self.view_is in
    let field : IsTableFor terms c.args.self.now.table = subst (λ (f : FieldValue). IsTableFor f.terms f.table) c.self.view_is c.self.invariant.3 in
    let list : c.neighbours-neighbours.result.now ≡ list_at terms.setup.now.chart.neighbours c.args.region = c.neighbours-neighbours.ensures.list ∙ ap (λ (lists : ChartLists). list_at lists.neighbours c.args.region) chart in
    let at = c.requires.at in
    let has : HasLooked c.args.seat.now.me.0 c.loop-k.seat.me.0 at.hold = c.loop-k.invariant.3 at.hold at.works in
    let found : (q : ℕ) → are_neighbours terms.setup.now.net.connectors terms.setup.now.chart.cut c.args.region q ≡ true →
    (i : ℕ) × (i < c.loop-k.k) × (slice_index c.neighbours-neighbours.result.now i ≡ q) =
    λ q near.
    let here = near-listed terms c.args.self.now.table c.args.region q field c.requires.there near in
    (here.0, omega (arith, here.1, ap length list, c.loop-k-test.false), ap (λ l. slice_index l here.0) list ∙ here.2) in (
      c.loop-k.invariant.3,
      record {
        all = λ hold q works near.
            let is : hold ≡ has.now = same-hold c.loop-k.seat.me.0.holds has.now hold has.works.later works.later has.works.holds works.holds in
            let region : hold.region ≡ c.args.region = ap (λ (h : Hold). h.region) is ∙ has.region ∙ at.region in
            let here = found q (subst (λ r. are_neighbours terms.setup.now.net.connectors terms.setup.now.chart.cut r q ≡ true) region near) in
            subst (λ p. Contains hold.cleared p) here.2 (c.loop-k.invariant.4 hold here.0 works here.1);
      },
      (λ q near. let here = found q near in subst (λ p. c.args.step ≤ slice_index c.loop-k.seat.me.0.seen p) here.2 (c.loop-k.invariant.5 here.0 here.1)),
    )
