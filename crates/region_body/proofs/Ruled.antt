-- What a connector takes from a cell and brings to it, by each rule.
use Rattle.std.proofs.Common.{◌≡◌, Bool, ℕ, ◌+◌, sym, ap, ◌∙◌}
use Rattle.connector_flow.specs.declared.rule.Rule.TheVariants.{Linking, Merging, Diverging}
use Rattle.flow_model.specs.declared.carried.Flow.{Flow}
use Rattle.region_body.specs.Carrying.{brought, brought_by, carried_of, taken, taken_by}
use Rattle.region_body.specs.CellRefs.{parts_at, ref_at}
use Rattle.region_body.specs.declared.cell_ref.CellRef.{CellRef}
use Rattle.region_body.specs.declared.followed_connector.FollowedConnector.{FollowedConnector}

pub link-moves : (t : ℕ) (given : Bool → CellRef → ℕ) (p : ℕ) (connector : FollowedConnector) (flow : Flow) → connector.timeline.rule ≡ Linking → flow ≡ carried_of t connector given →
    (taken t given p connector ≡ parts_at (ref_at connector.cells 0) flow.out1 p) × (brought t given p connector ≡ parts_at (ref_at connector.cells 1) flow.in1 p)
unfolding taken brought
link-moves t given p connector flow rule_is flow_is = (
  ap (λ rule. taken_by rule connector (carried_of t connector given) p) rule_is ∙ ap (λ one. taken_by Linking connector one p) (sym flow_is),
  ap (λ rule. brought_by rule connector (carried_of t connector given) p) rule_is ∙ ap (λ one. brought_by Linking connector one p) (sym flow_is),
)

pub merge-moves : (t : ℕ) (given : Bool → CellRef → ℕ) (p : ℕ) (connector : FollowedConnector) (flow : Flow) → connector.timeline.rule ≡ Merging → flow ≡ carried_of t connector given →
    (taken t given p connector ≡ parts_at (ref_at connector.cells 0) flow.out1 p + parts_at (ref_at connector.cells 1) flow.out2 p) × (brought t given p connector ≡ parts_at (ref_at connector.cells 2) flow.in1 p)
unfolding taken brought
merge-moves t given p connector flow rule_is flow_is = (
  ap (λ rule. taken_by rule connector (carried_of t connector given) p) rule_is ∙ ap (λ one. taken_by Merging connector one p) (sym flow_is),
  ap (λ rule. brought_by rule connector (carried_of t connector given) p) rule_is ∙ ap (λ one. brought_by Merging connector one p) (sym flow_is),
)

pub diverge-moves : (t : ℕ) (given : Bool → CellRef → ℕ) (p : ℕ) (connector : FollowedConnector) (flow : Flow) → connector.timeline.rule ≡ Diverging → flow ≡ carried_of t connector given →
    (taken t given p connector ≡ parts_at (ref_at connector.cells 0) flow.out1 p) × (brought t given p connector ≡ parts_at (ref_at connector.cells 1) flow.in1 p + parts_at (ref_at connector.cells 2) flow.in2 p)
unfolding taken brought
diverge-moves t given p connector flow rule_is flow_is = (
  ap (λ rule. taken_by rule connector (carried_of t connector given) p) rule_is ∙ ap (λ one. taken_by Diverging connector one p) (sym flow_is),
  ap (λ rule. brought_by rule connector (carried_of t connector given) p) rule_is ∙ ap (λ one. brought_by Diverging connector one p) (sym flow_is),
)
