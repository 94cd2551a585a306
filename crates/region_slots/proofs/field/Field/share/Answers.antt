use Rattle.std.proofs.Common.{◌≡◌, arith, ap, sym, ◌∙◌}
use Rattle.region_slots.proofs.Sharing.{sharing, some-word}
use Rattle.region_slots.proofs.field.Field.share.Goals as goal

pub split_seat-seat-requires : goal.split_seat-seat-requires
split_seat-seat-requires c =
    let terms = c.self.inside.table.shared.key in
    let same_table : c.self.inside.table.shared.table_id ≡ c.args.self.now.table = ap (λ field. field.table) c.self.view_is in
    let table : c.pass.inside.seat.table_id ≡ c.args.pass.now.table = ap (λ pass. pass.table) c.pass.view_is in
    let share : c.pass.inside.seat.me.0.share ≡ c.args.pass.now.knows.share = ap (λ pass. pass.knows.share) c.pass.view_is in (
      table ∙ c.requires.belongs.table ∙ sym same_table,
      omega (arith, some-word terms c.self.invariant.3.chart, c.self.invariant.3.words),
      sharing terms c.pass.inside.seat.id c.pass.inside.seat.me.0 (omega (arith, share, c.requires.shares)),
    )
