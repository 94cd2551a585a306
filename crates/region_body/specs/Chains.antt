-- Which of a region's connectors are links from one of its cells to the next, and which are not.
use Rattle.std.specs.Prelude.{◌≡◌, ℕ, ◌+◌, ◌<◌, Bool, true, false, not, ◌==◌, ◌&&◌, All, List, nat_lt, length, slice_index, if◌then◌else◌}
use Rattle.std.specs.List.{Contains, filter, list_any, range_with_len}
use Rattle.network_file.specs.Connectors.{touches}
use Rattle.network_file.specs.Numbered.{connector_at}
use Rattle.network_file.specs.Network.{Network}
use Rattle.network_file.specs.declared.connector.Connector.{Connector}
use Rattle.network_file.specs.declared.connector.Connector.TheVariants.{Link, Merge, Diverge}
use Rattle.timelines.specs.Links.{most_between}

-- the connector is a link from the p-th of these cells to the next
abbrev pub is_link : (cells : List ℕ) → (p : ℕ) → Connector → Bool
is_link cells p (Link up down) = nat_lt (p + 1) (length cells) && (slice_index cells p == up) && (slice_index cells (p + 1) == down)
is_link cells p (Merge up1 up2 down p1 p2) = false
is_link cells p (Diverge up down1 down2 b1 b2) = false

-- the first of two cells stands at p, and the other behind it
pub record IsNextAt (cells : List ℕ) (up down p : ℕ) : Type 0 where
  pub within : p + 1 < length cells
  pub first : slice_index cells p ≡ up
  pub next : slice_index cells (p + 1) ≡ down

-- or nowhere
abbrev pub HasNoNext : (cells : List ℕ) → (up down : ℕ) → Type 0
HasNoNext cells up down = (p : ℕ) → IsNextAt cells up down p → ⊥

-- it is a link from one of these cells to the next
abbrev pub is_chained : (cells : List ℕ) → Connector → Bool
is_chained cells connector = list_any (λ p. is_link cells p connector) (range_with_len 0 (length cells))

-- the connectors of a list that are no link from one of these cells to the next
abbrev pub odd_ones : Network → (cells connectors : List ℕ) → List ℕ
odd_ones net cells connectors = filter (λ k. not (is_chained cells (connector_at net.connectors k))) connectors

-- whether one of these connectors links the p-th cell to the next
unfoldable pub is_joined : Network → (cells connectors : List ℕ) → (p : ℕ) → Bool
is_joined net cells connectors p = list_any (λ k. is_link cells p (connector_at net.connectors k)) connectors

-- the most that this link carries in step t, 0 where there is none
unfoldable pub most_out : Network → (cells connectors : List ℕ) → (p t : ℕ) → ℕ
most_out net cells connectors p t =
    if is_joined net cells connectors p then most_between net.plan (slice_index cells p) (slice_index cells (p + 1)) t else 0

-- no cell stands at two places
abbrev pub AreDistinct : (cells : List ℕ) → Type 0
AreDistinct cells = (p q : ℕ) → p < length cells → q < length cells → slice_index cells p ≡ slice_index cells q → p ≡ q

-- cells, each of which stands at one place, and the connectors that touch them, maybe with others
pub record AreAround (net : Network) (cells connectors : List ℕ) : Type 0 where
  pub distinct : AreDistinct cells
  pub there : All (λ i. i < length net.cells) cells
  pub touched : ℕ → Bool
  pub numbers : connectors ≡ filter touched (range_with_len 0 (length net.connectors))
  pub whole : (i k : ℕ) → Contains cells i → k < length net.connectors → touches i (connector_at net.connectors k) ≡ true → touched k ≡ true
