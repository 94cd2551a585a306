use Rattle.std.proofs.Common.{◌≡◌, ◌∷◌, [], arith, ap, subst, sym, ◌∙◌}
use Rattle.border_rows.specs.declared.view.Terms.{Terms}
use Rattle.region_slots.specs.Plays.{HoldsAll, IsRegion}
use Rattle.region_slots.proofs.Gathering.{holds-all}
use Rattle.region_slots.proofs.Sharing.{some-word}
use Rattle.region_slots.proofs.Together.{gathering}
use Rattle.region_slots.proofs.field.Field.sees_together.Goals as goal

pub load-requires : goal.load-requires
load-requires c =
    let terms = c.self.inside.table.shared.key in
    let same_terms : terms ≡ c.args.self.now.terms = ap (λ field. field.terms) c.self.view_is in
    let same_table : c.self.inside.table.shared.table_id ≡ c.args.self.now.table = ap (λ field. field.table) c.self.view_is in (
      c.requires.seat.table ∙ sym same_table,
      omega (arith, some-word terms c.self.invariant.3.chart, c.self.invariant.3.words),
      gathering terms c.self.inside.table.shared.table_id.slots c.args.seat.now.id 0 c.args.seat.now.me (c.requires.seat.terms ∙ ap (λ t. t ∷ []) (sym same_terms)) c.requires.seat.share
          (subst (λ (t : Terms). HoldsAll t c.args.seat.now.me.0) (sym same_terms) (holds-all c.args.self.now.terms c.requires.gathered.0 c.args.seat.now.me c.requires.gathered.1)),
    )

-- one region is there
first : (c : goal.After-load) → IsRegion c.args.seat.now.me.0 c.args.self.now.terms 0
first c = record { of_field = c.requires.seat.terms; there = omega arith }

pub returns-clause-lawful : goal.returns-clause-lawful
returns-clause-lawful c = c.load.ensures.2.lawful c.args.self.now.terms 0 (first c)

pub returns-clause-started : goal.returns-clause-started
returns-clause-started c = λ r there. c.load.ensures.2.started c.args.self.now.terms r (record { of_field = c.requires.seat.terms; there = there })

pub returns-clause-whole : goal.returns-clause-whole
returns-clause-whole c = λ share. c.load.ensures.2.whole c.args.self.now.terms 0 (first c) share
