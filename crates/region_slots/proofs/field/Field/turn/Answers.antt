use Rattle.std.specs.Prelude.{slice_index}
use Rattle.std.proofs.Common.{◌≡◌, ◌≤◌, [], ◌∷◌, ◌++◌, ap, subst, sym, ◌∙◌}
use Rattle.region_cut.specs.Cuttings.{region_count}
use Rattle.border_rows.specs.declared.view.View.{View}
use Rattle.region_slots.specs.FieldView.{HasCounts}
use Rattle.region_slots.specs.Turning.{IsBehind, IsMoved, IsWithin, took_at}
use Rattle.region_slots.proofs.Counts.{turned-counts}
use Rattle.region_slots.proofs.NeighbourLooks.{turned-tried, turned-within}
use Rattle.region_slots.proofs.field.Field.turn.Goals as goal

pub returns-clause-belongs : goal.returns-clause-belongs
returns-clause-belongs g c =
    let knows : c.pass.inside.seat.me.0 ≡ c.args.pass.now.knows = ap (λ pass. pass.knows) c.pass.view_is in
    let came = c.tries.ensures in (
      record {
        table = came.same.1 ∙ ap (λ pass. pass.table) c.pass.view_is ∙ c.requires.belongs.table;
        terms = came.terms ∙ ap (λ (v : View). v.terms) knows ∙ c.requires.belongs.terms;
        counts = turned-counts c.args.self.now.terms (region_count c.args.self.now.terms.setup.now.chart.cut) c.pass.inside.seat.me.0 c.tries.new.seat.me.0 c.args.goal c.args.region c.tries.result
            came.held came.ended came.behind came.moved (subst (HasCounts (region_count c.args.self.now.terms.setup.now.chart.cut)) (sym knows) c.requires.belongs.counts);
        in_time = came.seen_in_time;
      },
      came.same.0 ∙ ap (λ pass. pass.id) c.pass.view_is,
    )

pub returns-clause-keeps : goal.returns-clause-keeps
returns-clause-keeps g c =
    let knows : c.pass.inside.seat.me.0 ≡ c.args.pass.now.knows = ap (λ pass. pass.knows) c.pass.view_is in
    let came = c.tries.ensures in
    subst (λ (v : View). IsWithin v c.tries.new.seat.me.0 c.args.goal) knows
    (turned-within c.args.self.now.terms c.pass.inside.seat.me.0 c.tries.new.seat.me.0 c.args.goal c.args.region c.tries.result came.held came.ended came.behind came.moved)

pub returns-clause-ended : goal.returns-clause-ended
returns-clause-ended g c = λ s is.
    let knows = ap (λ pass. pass.knows) c.pass.view_is in
    subst (λ (v : View). (c.args.goal ≤ s) × (c.tries.new.seat.me.0 ≡ took_at v c.args.region s) × (slice_index c.tries.new.seat.me.0.seen c.args.region ≡ s) × (slice_index v.seen c.args.region ≤ s)) knows
    (c.tries.ensures.ended s is)

pub returns-clause-behind : goal.returns-clause-behind
returns-clause-behind g c = λ q s is.
    let knows = ap (λ pass. pass.knows) c.pass.view_is in
    subst (λ (v : View). IsBehind c.args.self.now.terms v c.tries.new.seat.me.0 c.args.goal c.args.region q s) knows (c.tries.ensures.behind q s is)

pub returns-clause-moved : goal.returns-clause-moved
returns-clause-moved g c = λ s is.
    let knows = ap (λ pass. pass.knows) c.pass.view_is in
    subst (λ (v : View). IsMoved c.args.self.now.terms v c.tries.new.seat.me.0 c.args.goal c.args.region s) knows (c.tries.ensures.moved s is)

pub returns-clause-tried : goal.returns-clause-tried
returns-clause-tried g c =
    let knows = ap (λ pass. pass.knows) c.pass.view_is in
    let came = c.tries.ensures in
    subst (λ (v : View). c.tries.new.seat.me.0.tried ≡ v.tried ++ c.args.region ∷ []) knows
    (turned-tried c.args.self.now.terms c.pass.inside.seat.me.0 c.tries.new.seat.me.0 c.args.goal c.args.region c.tries.result came.held came.ended came.behind came.moved)
