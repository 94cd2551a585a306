use Rattle.std.proofs.Common.{◌≡◌, Bool, true, false, List, [], ◌∷◌, ◌++◌, ◌∙◌, refl, rules}
use Rattle.std.specs.Prelude.{◌||◌}
use Rattle.std.specs.List.{list_any}
use Rattle.std.proofs.lemmas.List.Folds.{list_any-append}
use Rattle.network_file.specs.Connectors.{diverges_from, leads_into, leads_out_of}
use Rattle.network_file.proofs.connector_table.ConnectorTable.with.Goals as goal

-- the new element passes, or one before it does
list_any-push : {X : Type 0} (p : X → Bool) (xs : List X) (x : X) → (p x || list_any p xs) ≡ list_any p (xs ++ x ∷ [])
list_any-push p xs x = rw (list_any-append p xs (x ∷ [])) (either (p x) (list_any p xs))
  where
    either : (a b : Bool) → (a || b) ≡ (b || (a || false))
    either true true = refl
    either true false = refl
    either false true = refl
    either false false = refl

pub invariant_of-result : goal.invariant_of-result
invariant_of-result c =
    let old = c.self.inside.parts.value.connectors.items in
    let grown : c.push.new.self.items ≡ old ++ c.args.connector ∷ [] = search rules in
    rw grown (
      λ i. c.in_ok-mark_upstream.ensures i ∙ rw (c.deref_mut.ensures.value, c.self.invariant.0 i) (list_any-push (leads_out_of i) old c.args.connector),
      λ i. c.in_ok-mark_downstream.ensures i ∙ rw (c.deref_mut.ensures.value, c.self.invariant.1 i) (list_any-push (leads_into i) old c.args.connector),
      λ i. c.in_ok-mark_diverging.ensures i ∙ rw (c.deref_mut.ensures.value, c.self.invariant.2 i) (list_any-push (diverges_from i) old c.args.connector),
    )
