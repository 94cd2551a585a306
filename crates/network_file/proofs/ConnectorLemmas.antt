-- A connector of each kind, from what its fields were tested for.
use Rattle.std.proofs.Common.{ℕ, ◌≡◌, ◌≢◌, ◌<◌, ◌≤◌, false, List, [], ◌∷◌, length, arith, eqb}
use Rattle.std.specs.Prelude.{All}
use Rattle.std.specs.List.{IsDistinct, list_any}
use Rattle.std.proofs.lemmas.Bool.Decides.{nat_tests}
use Rattle.std.proofs.lemmas.List.Elements.{All-cons, All-nil}
use Rattle.fixed_flow.specs.Limits.{most_ratio}
use Rattle.network_file.specs.Cells.{is_exit_at, is_gate_at}
use Rattle.network_file.specs.Connectors.{leads_into, leads_out_of}
use Rattle.network_file.specs.Draft.{Draft}
use Rattle.network_file.specs.Fitting.{FitsConnector}
use Rattle.network_file.specs.Formats.{most_records}
use Rattle.network_file.specs.Sound.{IsSoundConnector}
use Rattle.network_file.specs.declared.cell.Cell.{Cell}
use Rattle.network_file.specs.declared.connector.Connector.TheVariants.{Link, Merge, Diverge}

-- a cell that may stand upstream, one that may stand downstream, and a weight
abbrev Sends : List Cell → ℕ → Type 0
Sends cells i = (i < length cells) × (is_exit_at cells i ≡ false)

abbrev Receives : List Cell → ℕ → Type 0
Receives cells i = (i < length cells) × (is_gate_at cells i ≡ false)

abbrev IsWeight : ℕ → Type 0
IsWeight weight = (1 ≤ weight) × (weight ≤ most_ratio)

one : (P : ℕ → Type 0) (a : ℕ) → P a → All P (a ∷ [])
one P a h = All-cons P a [] h (All-nil P)

two : (P : ℕ → Type 0) (a b : ℕ) → P a → P b → All P (a ∷ b ∷ [])
two P a b h k = All-cons P a (b ∷ []) h (one P b k)

apart-one : (a : ℕ) → IsDistinct eqb (a ∷ [])
unfolding IsDistinct
apart-one a = (tt, tt)

apart-two : (a b : ℕ) → b ≢ a → IsDistinct eqb (a ∷ b ∷ [])
unfolding IsDistinct
apart-two a b differ = ((not_equal a b differ, tt), (tt, tt))
  where
    not_equal : (a b : ℕ) → b ≢ a → eqb a b ≡ false
    not_equal a b differ = grind (arith, nat_tests)

IsSoundConnector-link : (cells : List Cell) (up down : ℕ) → Sends cells up → Receives cells down → IsSoundConnector cells (Link up down)
IsSoundConnector-link cells up down sends receives = record {
  up = one (Sends cells) up sends;
  down = one (Receives cells) down receives;
  up_apart = apart-one up;
  down_apart = apart-one down;
  weights = All-nil IsWeight;
}

IsSoundConnector-merge : (cells : List Cell) (up1 up2 down p1 p2 : ℕ) → Sends cells up1 → Sends cells up2 → up2 ≢ up1 → Receives cells down → IsWeight p1 → IsWeight p2
    → IsSoundConnector cells (Merge up1 up2 down p1 p2)
IsSoundConnector-merge cells up1 up2 down p1 p2 sends1 sends2 differ receives fits1 fits2 = record {
  up = two (Sends cells) up1 up2 sends1 sends2;
  down = one (Receives cells) down receives;
  up_apart = apart-two up1 up2 differ;
  down_apart = apart-one down;
  weights = two IsWeight p1 p2 fits1 fits2;
}

IsSoundConnector-diverge : (cells : List Cell) (up down1 down2 b1 b2 : ℕ) → Sends cells up → Receives cells down1 → Receives cells down2 → down2 ≢ down1 → IsWeight b1 → IsWeight b2
    → IsSoundConnector cells (Diverge up down1 down2 b1 b2)
IsSoundConnector-diverge cells up down1 down2 b1 b2 sends receives1 receives2 differ fits1 fits2 = record {
  up = one (Sends cells) up sends;
  down = two (Receives cells) down1 down2 receives1 receives2;
  up_apart = apart-one up;
  down_apart = apart-two down1 down2 differ;
  weights = two IsWeight b1 b2 fits1 fits2;
}

-- a cell that may stand upstream of a new connector, and one that may stand downstream
abbrev MaySend : Draft → ℕ → Type 0
MaySend draft i = (i < length draft.cells) × (is_exit_at draft.cells i ≡ false) × (list_any (leads_out_of i) draft.connectors ≡ false)

abbrev MayReceive : Draft → ℕ → Type 0
MayReceive draft i = (i < length draft.cells) × (is_gate_at draft.cells i ≡ false) × (list_any (leads_into i) draft.connectors ≡ false)

abbrev HasRoom : Draft → Type 0
HasRoom draft = length draft.connectors < most_records draft.format

pub FitsConnector-link : (draft : Draft) (up down : ℕ) → HasRoom draft → MaySend draft up → MayReceive draft down → FitsConnector draft (Link up down)
FitsConnector-link draft up down room sends receives = record {
  room = room;
  sound = IsSoundConnector-link draft.cells up down (sends.0, sends.1) (receives.0, receives.1);
  up_free = one (λ i. list_any (leads_out_of i) draft.connectors ≡ false) up sends.2;
  down_free = one (λ i. list_any (leads_into i) draft.connectors ≡ false) down receives.2;
}

pub FitsConnector-merge : (draft : Draft) (up1 up2 down p1 p2 : ℕ) → HasRoom draft → MaySend draft up1 → MaySend draft up2 → up2 ≢ up1 → MayReceive draft down → IsWeight p1 → IsWeight p2
    → FitsConnector draft (Merge up1 up2 down p1 p2)
FitsConnector-merge draft up1 up2 down p1 p2 room sends1 sends2 differ receives fits1 fits2 = record {
  room = room;
  sound = IsSoundConnector-merge draft.cells up1 up2 down p1 p2 (sends1.0, sends1.1) (sends2.0, sends2.1) differ (receives.0, receives.1) fits1 fits2;
  up_free = two (λ i. list_any (leads_out_of i) draft.connectors ≡ false) up1 up2 sends1.2 sends2.2;
  down_free = one (λ i. list_any (leads_into i) draft.connectors ≡ false) down receives.2;
}

pub FitsConnector-diverge : (draft : Draft) (up down1 down2 b1 b2 : ℕ) → HasRoom draft → MaySend draft up → MayReceive draft down1 → MayReceive draft down2 → down2 ≢ down1 → IsWeight b1 → IsWeight b2
    → FitsConnector draft (Diverge up down1 down2 b1 b2)
FitsConnector-diverge draft up down1 down2 b1 b2 room sends receives1 receives2 differ fits1 fits2 = record {
  room = room;
  sound = IsSoundConnector-diverge draft.cells up down1 down2 b1 b2 (sends.0, sends.1) (receives1.0, receives1.1) (receives2.0, receives2.1) differ fits1 fits2;
  up_free = one (λ i. list_any (leads_out_of i) draft.connectors ≡ false) up sends.2;
  down_free = two (λ i. list_any (leads_into i) draft.connectors ≡ false) down1 down2 receives1.2 receives2.2;
}
