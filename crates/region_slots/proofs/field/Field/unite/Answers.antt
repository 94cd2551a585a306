use Rattle.std.proofs.Common.{◌≡◌, ◌∷◌, [], arith, ap, sym, subst, ◌∙◌, rules}
use Rattle.region_cut.specs.Cuttings.{region_count}
use Rattle.border_rows.specs.Kinds.{united}
use Rattle.border_rows.specs.declared.view.View.{View}
use Rattle.region_slots.specs.FieldView.{HasCounts, HasSeenInTime}
use Rattle.region_slots.proofs.Counts.{counts-united, united-in-time}
use Rattle.region_slots.proofs.Sharing.{bounding, some-word, uniting}
use Rattle.region_slots.proofs.field.Field.unite.Goals as goal

pub join_seat-requires : goal.join_seat-requires
join_seat-requires c =
    let terms = c.self.inside.table.shared.key in
    let same_table : c.self.inside.table.shared.table_id ≡ c.args.self.now.table = ap (λ field. field.table) c.self.view_is in
    let table : c.pass.inside.seat.table_id ≡ c.args.pass.now.table = ap (λ pass. pass.table) c.pass.view_is in
    let also : c.other.inside.seat.table_id ≡ c.args.other.table = ap (λ pass. pass.table) c.other.view_is in (
      table ∙ c.requires.belongs.table ∙ sym same_table,
      also ∙ c.requires.also.table ∙ sym same_table,
      c.other.invariant.nothing,
      omega (arith, some-word terms c.self.invariant.3.chart, c.self.invariant.3.words),
      uniting terms c.pass.inside.seat.id c.pass.inside.seat.me.0 c.other.inside.seat.id c.other.inside.seat.me.0 c.pass.invariant.share c.other.invariant.share c.other.invariant.holds,
    )

pub load-requires : goal.load-requires
load-requires c =
    let terms = c.self.inside.table.shared.key in
    let same_terms : terms ≡ c.args.self.now.terms = ap (λ field. field.terms) c.self.view_is in
    let same_table : c.self.inside.table.shared.table_id ≡ c.args.self.now.table = ap (λ field. field.table) c.self.view_is in
    let table : c.pass.inside.seat.table_id ≡ c.args.pass.now.table = ap (λ pass. pass.table) c.pass.view_is in
    let of_field : c.join_seat.new.seat.me.0.terms ≡ terms ∷ [] =
    ap (λ me. me.0.terms) c.join_seat.ensures.2 ∙ ap (λ pass. pass.knows.terms) c.pass.view_is ∙ c.requires.belongs.terms ∙ ap (λ t. t ∷ []) (sym same_terms) in (
      c.join_seat.ensures.0 ∙ table ∙ c.requires.belongs.table ∙ sym same_table,
      omega (arith, some-word terms c.self.invariant.3.chart, c.self.invariant.3.words),
      bounding terms c.self.inside.table.shared.table_id.slots c.join_seat.new.seat.id 0 c.join_seat.new.seat.me of_field,
    )

pub returns-clause-belongs : goal.returns-clause-belongs
returns-clause-belongs c =
    let terms = c.args.self.now.terms in
    let knows : c.load.new.seat.me.0 ≡ united c.args.pass.now.knows c.args.other.knows = search rules in
    record {
      table = search rules;
      terms = ap (λ (v : View). v.terms) knows ∙ c.requires.belongs.terms;
      counts = subst (HasCounts (region_count terms.setup.now.chart.cut)) (sym knows) (counts-united (region_count terms.setup.now.chart.cut) c.args.pass.now.knows c.args.other.knows c.requires.belongs.counts);
      in_time = subst (HasSeenInTime terms) (sym knows) (united-in-time terms c.args.pass.now.knows c.args.other.knows c.requires.belongs.counts c.requires.belongs.in_time c.requires.also.in_time);
    }
