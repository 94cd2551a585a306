-- The cells that a region knows: its own and those of its halo.
use Rattle.std.specs.Prelude.{◌==◌, slice_index}
use Rattle.std.specs.List.{Contains, list_any}
use Rattle.std.proofs.Common.{◌≡◌, ℕ, inl, inr, true, ◌<◌, List, ap, refl, subst, sym, ◌∙◌}
use Rattle.std.proofs.lemmas.Bool.{eq-eqb}
use Rattle.std.proofs.lemmas.List.{get_or_default}
use Rattle.network_file.specs.declared.connector.Connector.{Connector}
use Rattle.region_cut.specs.ConnectorCells.{three_cells}
use Rattle.region_cut.proofs.Anys.{finds}
use Rattle.region_body.specs.Joining.{AreKnown, IsKnown, IsNoneOf}

pub listed : (xs : List ℕ) (i : ℕ) → Contains xs i → list_any (λ j. j == i) xs ≡ true
listed xs i has = finds (λ j. j == i) xs i has (eq-eqb i i refl)

-- one that is none of its own is one of its halo
pub elsewhere : (cells halo : List ℕ) (i : ℕ) → IsKnown cells halo i → IsNoneOf cells i → Contains halo i
elsewhere cells halo i known none = elim known [
  | inl own ↦ absurd (none own.0 (record { within = own.1; is = get_or_default cells own.0 0 i own.1 ∙ own.2 }))
  | inr other ↦ other
]

-- each of a known connector's three
pub known_cell : (cells halo three : List ℕ) (connector read : Connector) (m : ℕ) → AreKnown cells halo connector → connector ≡ read → three ≡ three_cells read → m < 3 →
    IsKnown cells halo (slice_index three m)
known_cell cells halo three connector read m known same is few =
    subst (λ cs. IsKnown cells halo (slice_index cs m)) (ap three_cells same ∙ sym is) (known.each m few)
