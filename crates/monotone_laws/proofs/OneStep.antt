-- One step of a link in two networks of which the second is eased.
use Rattle.std.specs.Prelude.{slice_get, Some}
use Rattle.std.proofs.Common.{◌≡◌, ℕ, min, true, ◌+◌, ◌-◌, ◌<◌, ◌≤◌, length, arith, refl, subst, sym, false, ◌∙◌}
use Rattle.ordinary_link.specs.Flows.{receiving_flow}
use Rattle.step_plan.specs.Capacity.{capacity_at}
use Rattle.step_plan.specs.Green.{green_at}
use Rattle.step_plan.specs.Speeds.{arriving, speed_at}
use Rattle.network_file.specs.Cells.{is_exit, is_exit_at, is_gate, is_gate_at, is_road, is_road_at}
use Rattle.network_file.specs.Numbered.{connector_at}
use Rattle.network_file.specs.Network.{Network}
use Rattle.network_file.specs.Sound.{IsNetwork, IsSoundCell, IsSoundKind}
use Rattle.network_file.specs.declared.cell.Cell.{Cell}
use Rattle.network_file.specs.declared.cell.Kind.{Kind}
use Rattle.network_file.specs.declared.cell.Kind.TheVariants.{Road, Gate, Exit}
use Rattle.network_file.specs.declared.connector.Connector.TheVariants.{Link}
use Rattle.flow_model.specs.Bounds.{first_at, room_parts_at}
use Rattle.flow_model.specs.Limits.{receiving_at, room_of, sending_at}
use Rattle.flow_model.proofs.CellKinds.{All-at, cell_at, road_at-alone}
use Rattle.flow_model.proofs.CellLimits.{most_of, speed_at-sound}
use Rattle.flow_model.proofs.States.{state_at-in_bounds}
use Rattle.monotone_laws.specs.Eased.{IsEased, IsRoomier, IsRoomierKind}
use Rattle.monotone_laws.specs.Links.{HasLinksAlone}
use Rattle.monotone_laws.proofs.Linked.{IsLinked, linked-down, linked-up}
use Rattle.monotone_laws.proofs.Curves.{carried, come, come-linked, gone, gone-linked, held, held-gone}
use Rattle.monotone_laws.proofs.OneMove.{ratio_on, sends_on, space_on, speed_on}

-- two networks of links alone, of which the second is eased
pub record AreEased (one two : Network) : Type 0 where
  pub first : IsNetwork one
  pub second : IsNetwork two
  pub alone : HasLinksAlone one
  pub eased : IsEased one two

-- the cells of a number in both
beside : (one two : Network) (i : ℕ) → IsEased one two → i < length one.cells →
    (a : Cell) × (b : Cell) × (slice_get one.cells i ≡ Some a) × (slice_get two.cells i ≡ Some b) × IsRoomier a b
beside one two i eased has =
    let here = cell_at one.cells i has in
    let there = cell_at two.cells i (omega (arith, eased.one_each)) in
    (here.0, there.0, here.1, there.1, eased.cells i here.0 there.0 here.1 there.1)

-- cells of which one is roomier are of one sort
same_sort : (one two : Kind) → IsRoomierKind one two →
    (is_exit two ≡ is_exit one) × (is_gate two ≡ is_gate one) × (is_road two ≡ is_road one) × (most_of one ≤ most_of two)
same_sort (Road room num den) (Road room_too num_too den_too) roomier = (refl, refl, refl, roomier.0)
same_sort Gate Gate roomier = (refl, refl, refl, omega arith)
same_sort Exit Exit roomier = (refl, refl, refl, omega arith)
same_sort one two roomier = absurd roomier

pub same-exit : (one two : Network) (i : ℕ) → IsEased one two → i < length one.cells → is_exit_at two.cells i ≡ is_exit_at one.cells i
same-exit one two i eased has =
    let both = beside one two i eased has in
    rw (both.2, both.3) (same_sort both.0.kind both.1.kind both.4.kind).0

pub same-gate : (one two : Network) (i : ℕ) → IsEased one two → i < length one.cells → is_gate_at two.cells i ≡ is_gate_at one.cells i
same-gate one two i eased has =
    let both = beside one two i eased has in
    rw (both.2, both.3) (same_sort both.0.kind both.1.kind both.4.kind).1

pub same-first : (one two : Network) (i : ℕ) → IsEased one two → i < length one.cells → first_at two.cells i ≡ first_at one.cells i
same-first one two i eased has =
    let both = beside one two i eased has in
    rw (both.2, both.3) (both.4.first)

pub linked-too : (one two : Network) (i j : ℕ) → IsEased one two → IsLinked one i j → IsLinked two i j
linked-too one two i j eased linked = record {
  k = linked.k;
  there = subst (λ connectors. linked.k < length connectors) (sym eased.connectors) linked.there;
  is = subst (λ connectors. connector_at connectors linked.k ≡ Link i j) (sym eased.connectors) linked.is;
}

-- what the cell upstream sends on, where the one downstream receives no less
sends : (one two : Network) (t i r s u : ℕ) → AreEased one two → t < one.steps → i < length one.cells → is_exit_at one.cells i ≡ false →
    gone one t i ≤ gone two t i + u → come one t i ≤ come two t i + u → gone one t i + r ≤ gone two t i + s + u →
    gone one t i + min (sending_at one t i (held one t i)) r ≤ gone two t i + min (sending_at two t i (held two t i)) s + u
unfolding sending_at
sends one two t i r s u both before has stays gone_i come_i receives =
    let stays_too = same-exit one two i both.eased has in
    let all : held one t i + gone one t i ≤ held two t i + gone two t i + u =
    omega (
      arith,
      held-gone one t i both.first (omega arith) has stays,
      held-gone two t i both.second (omega (arith, both.eased.steps)) (omega (arith, both.eased.one_each)) (rw stays_too stays),
      same-first one two i both.eased has,
    ) in
    let slow = speed_at one.plan i t in
    let fast = speed_at two.plan i t in
    let arrive : arriving slow (held one t i) + gone one t i ≤ arriving fast (held two t i) + (gone two t i + u) =
    speed_on slow fast (held one t i) (held two t i) (gone one t i) (gone two t i + u) (speed_at-sound one i t both.first) (speed_at-sound two i t both.second)
    (both.eased.speed i t has before) (omega (arith, all)) gone_i in
    sends_on (gone one t i) (gone two t i) (arriving slow (held one t i)) (arriving fast (held two t i)) (capacity_at one.plan i t) (capacity_at two.plan i t) r s u
    (green_at one.plan i t) (green_at two.plan i t) gone_i (omega (arith, arrive)) (both.eased.capacity i t has before) (both.eased.green i t has before) receives

-- what a cell of this kind receives
receives_on : (one two : Kind) (first second g h m n q p u : ℕ) → IsSoundKind one first → IsSoundKind two second → IsRoomierKind one two → q ≤ p →
    g ≤ h + u → (is_road one ≡ true → most_of one - m + g ≤ most_of two - n + (h + u)) →
    g + receiving_flow m q (room_of one) ≤ h + receiving_flow n p (room_of two) + u
receives_on (Road room num den) (Road room_too num_too den_too) first second g h m n q p u sound sound_too roomier capacity gone_i space =
    let some : 1 ≤ den = omega (arith, sound.positive, sound.ratio) in
    let too : 1 ≤ den_too = omega (arith, sound_too.positive, sound_too.ratio) in
    let more = space_on num den (room - m) (room_too - n) g (h + u) some sound.ratio (space refl) gone_i in
    let wider = ratio_on num den num_too den_too (room_too - n) some too roomier.1 in
    omega (arith, more, wider)
receives_on Gate Gate first second g h m n q p u sound sound_too roomier capacity gone_i space = omega arith
receives_on Exit Exit first second g h m n q p u sound sound_too roomier capacity gone_i space = omega arith
receives_on one two first second g h m n q p u sound sound_too roomier capacity gone_i space = absurd roomier

-- the empty space of the road downstream, and what has come into it
space : (one two : Network) (t i j u : ℕ) → AreEased one two → IsLinked one i j → t ≤ one.steps → is_road_at one.cells j ≡ true →
    is_road_at two.cells j ≡ true → room_parts_at one.cells j ≤ room_parts_at two.cells j → gone one t j ≤ gone two t j + u →
    room_parts_at one.cells j - held one t j + gone one t i ≤ room_parts_at two.cells j - held two t j + (gone two t i + u)
space one two t i j u both linked within road road_too room gone_j =
    let has = (linked-down one i j both.first linked).0 in
    let has_too : j < length two.cells = omega (arith, both.eased.one_each) in
    let within_too : t ≤ two.steps = omega (arith, both.eased.steps) in
    omega (
      arith,
      ((state_at-in_bounds one both.first t within).each j has).held.road road,
      ((state_at-in_bounds two both.second t within_too).each j has_too).held.road road_too,
      held-gone one t j both.first within has ((road_at-alone one.cells j road).1),
      held-gone two t j both.second within_too has_too ((road_at-alone two.cells j road_too).1),
      same-first one two j both.eased has,
      come-linked one t i j both.first linked,
      come-linked two t i j both.second (linked-too one two i j both.eased linked),
    )

-- what the cell downstream receives
receives : (one two : Network) (t i j u : ℕ) → AreEased one two → IsLinked one i j → t < one.steps →
    gone one t i ≤ gone two t i + u → gone one t j ≤ gone two t j + u →
    gone one t i + receiving_at one t j (held one t j) ≤ gone two t i + receiving_at two t j (held two t j) + u
unfolding receiving_at
receives one two t i j u both linked before gone_i gone_j =
    let has = (linked-down one i j both.first linked).0 in
    let cells = beside one two j both.eased has in
    let a : Cell = cells.0 in
    let b : Cell = cells.1 in
    let sound : IsSoundCell a = All-at IsSoundCell one.cells j a cells.2 both.first.sound.sound_cells in
    let sound_too : IsSoundCell b = All-at IsSoundCell two.cells j b cells.3 both.second.sound.sound_cells in
    let sort = same_sort a.kind b.kind cells.4.kind in
    let room : is_road a.kind ≡ true → most_of a.kind - held one t j + gone one t i ≤ most_of b.kind - held two t j + (gone two t i + u) = λ road.
    let road_here : is_road_at one.cells j ≡ true = rw cells.2 road in
    let road_there : is_road_at two.cells j ≡ true = rw cells.3 (sort.2 ∙ road) in
    let more : room_parts_at one.cells j ≤ room_parts_at two.cells j = rw (cells.2, cells.3) sort.3 in
    rw (cells.2, cells.3) at (space one two t i j u both linked (omega arith) road_here road_there more gone_j) in
    rw (cells.2, cells.3) (
    receives_on a.kind b.kind a.first b.first (gone one t i) (gone two t i) (held one t j) (held two t j) (capacity_at one.plan j t) (capacity_at two.plan j t) u
    sound.kind sound_too.kind cells.4.kind (both.eased.capacity j t has before) gone_i room
    )

-- the step: by u at most what has gone out of the cell passes what has in the eased network
pub one-step : (one two : Network) (t i j u : ℕ) → AreEased one two → IsLinked one i j → t < one.steps →
    gone one t i ≤ gone two t i + u → come one t i ≤ come two t i + u → gone one t j ≤ gone two t j + u →
    gone one (t + 1) i ≤ gone two (t + 1) i + u
one-step one two t i j u both linked before gone_i come_i gone_j =
    let up = linked-up one i j both.first linked in
    let moves : gone one t i + carried one t i j ≤ gone two t i + carried two t i j + u =
    sends one two t i (receiving_at one t j (held one t j)) (receiving_at two t j (held two t j)) u both before up.0 up.1 gone_i come_i
    (receives one two t i j u both linked before gone_i gone_j) in
    omega (
      arith,
      moves,
      gone-linked one t i j both.first linked,
      gone-linked two t i j both.second (linked-too one two i j both.eased linked),
    )
