use Rattle.std.specs.Prelude.{count_by, replicate, slice_set, ◌&&◌}
use Rattle.std.proofs.Common.{◌≡◌, ℕ, ◌<◌, ◌≤◌, false, true, List, [], ◌∷◌, ◌++◌, length, get_or, ap, arith, subst, sym, ◌∙◌}
use Rattle.std.proofs.lemmas.List.{get_or_default, length_push}
use Rattle.network_file.specs.Connectors.{are_joined, leads_into, leads_out_of}
use Rattle.network_file.specs.Sound.{IsNetwork}
use Rattle.network_file.specs.declared.connector.Connector.{Connector}
use Rattle.cut_grow.specs.Least.{IsLeast}
use Rattle.cut_grow.specs.Sides.{AreThere, IsClosed, IsOpen, is_free}
use Rattle.cut_grow.proofs.Connectors.{connectors-there}
use Rattle.cut_grow.proofs.Walking.{IsPointed, IsWalking, pointed-beside, pointed-lowest, walking-all, walking-more, walking-none, lowest-below, open-least}
use Rattle.cut_grow.proofs.walk.walk.Goals.{After-as_slice-connectors, then-place-len, else-place-len}
use Rattle.cut_grow.proofs.walk.walk.Goals as goal

connectors : (c : After-as_slice-connectors) → c.as_slice-connectors.result.now ≡ c.args.net.now.connectors
connectors c = c.as_slice-connectors.ensures.value ∙ ap (λ net. net.connectors) c.net.view_is

-- their cells are there, as far as there are marks
there : (c : After-as_slice-connectors) → (marks : ℕ) → marks ≡ length c.args.net.now.cells → AreThere marks c.as_slice-connectors.result.now
there c marks long =
    subst (AreThere marks) (sym (connectors c))
    (subst (λ n. AreThere n c.args.net.now.connectors) (sym long) (connectors-there c.args.net.now (subst IsNetwork c.net.view_is c.net.invariant)))

pub of-requires-clause-one_out : goal.of-requires-clause-one_out
of-requires-clause-one_out c =
    subst (λ (cs : List Connector). (i : ℕ) → count_by (leads_out_of i) cs ≤ 1) (sym (connectors (goal.at.of-requires-clause-one_out c).After-as_slice-connectors))
    (subst IsNetwork c.net.view_is c.net.invariant).sound.one_out

pub of-requires-clause-one_in : goal.of-requires-clause-one_in
of-requires-clause-one_in c =
    subst (λ (cs : List Connector). (i : ℕ) → count_by (leads_into i) cs ≤ 1) (sym (connectors (goal.at.of-requires-clause-one_in c).After-as_slice-connectors))
    (subst IsNetwork c.net.view_is c.net.invariant).sound.one_in

pub loop-init : goal.loop-init
loop-init c =
    let cells : length c.net.inside.cells.items ≡ length c.args.net.now.cells = ap (λ net. length net.cells) c.net.view_is in
    let long : c.len-cells.result ≡ length c.args.net.now.cells = omega (arith, c.len-cells.ensures, c.net.inside.cells.ok.0, cells) in
    let marks : c.in_ok-placed.placed.items ≡ replicate (length c.args.net.now.cells) false =
    c.in_ok-placed.ensures.items_if_clones_equal (λ y same. same) ∙ ap (λ n. replicate n false) long in
    record {
      walking =
          subst (λ order. IsWalking c.args.net.now order c.in_ok-placed.placed.items 0 0) (sym c.new-order.ensures.items)
          (walking-none c.args.net.now c.in_ok-placed.placed.items marks);
      long = ap length c.new-order.ensures.items;
    }

pub first_open-place-requires-clause-there : goal.first_open-place-requires-clause-there
first_open-place-requires-clause-there c =
    there (goal.at.first_open-place-requires-clause-there c).After-as_slice-connectors (length c.deref.result.now) (ap length c.deref.ensures.value ∙ c.loop.invariant.walking.one_each)

pub least_beside-next-requires-clause-there : goal.least_beside-next-requires-clause-there
least_beside-next-requires-clause-there c =
    there (goal.at.least_beside-next-requires-clause-there c).After-as_slice-connectors (length c.deref-then-place-len.result.now)
    (ap length c.deref-then-place-len.ensures.value ∙ c.loop.invariant.walking.one_each)

pub returns-clause-order : goal.returns-clause-order
returns-clause-order c =
    let cells : length c.net.inside.cells.items ≡ length c.args.net.now.cells = ap (λ net. length net.cells) c.net.view_is in
    (walking-all c.args.net.now c.loop.order.items c.loop.placed.items c.loop.place c.loop.lowest c.loop.invariant.walking
    (omega (arith, c.loop.invariant.long, c.len-cells.ensures, c.net.inside.cells.ok.0, cells))).1

pub loop-preserved : goal.loop-preserved
loop-preserved c =
    let connectors = connectors (goal.at.loop-preserved c).After-as_slice-connectors in
    let marks : c.deref.result.now ≡ c.loop.placed.items = c.deref.ensures.value in
    let marks_again : c.deref-in-loop-2.result.now ≡ c.loop.placed.items = c.deref-in-loop-2.ensures.value in
    let listed : c.deref-in-loop.result.now ≡ c.loop.order.items = c.deref-in-loop.ensures.value in
    let cells : length c.net.inside.cells.items ≡ length c.args.net.now.cells = ap (λ net. length net.cells) c.net.view_is in
    let closed : (k : ℕ) → c.loop.place ≤ k → k < c.first_open-place.result → IsClosed c.args.net.now.connectors c.loop.placed.items (get_or c.loop.order.items k 0) =
    rw (connectors, marks, listed) at c.first_open-place.ensures.closed in
    let low : c.first_free-lowest.result ≤ length c.loop.placed.items = omega (arith, c.first_free-lowest.ensures.within, ap length marks_again) in
    let full : (i : ℕ) → c.loop.lowest ≤ i → i < c.first_free-lowest.result → get_or c.loop.placed.items i false ≡ true =
    rw marks_again at c.first_free-lowest.ensures.full in
    let pointed : IsPointed c.args.net.now c.loop.order.items c.loop.placed.items c.first_open-place.result c.first_free-lowest.result c.if-place-len.next =
    elim c.if-place-len.branch [
      | then-place-len w ↦
          let inside : c.first_open-place.result < length c.loop.order.items = omega (arith, w.if-place-len.true, c.len.ensures, c.loop.order.ok.0) in
          let opens : IsOpen c.args.net.now.connectors c.loop.placed.items (get_or c.loop.order.items c.first_open-place.result 0) =
          rw (connectors, marks, listed) at c.first_open-place.ensures.open (omega (arith, inside, ap length listed)) in
          let marks_here : w.deref-then-place-len.result.now ≡ c.loop.placed.items = w.deref-then-place-len.ensures.value in
          let cell : w.index.result.now ≡ get_or c.loop.order.items c.first_open-place.result 0 =
          w.index.ensures ∙ get_or_default c.loop.order.items c.first_open-place.result w.index.result.now 0 inside in
          let least : IsLeast (length c.loop.placed.items) (λ i. is_free c.loop.placed.items i && are_joined c.args.net.now.connectors (get_or c.loop.order.items c.first_open-place.result 0) i) w.least_beside-next.result =
          rw (connectors, marks_here, cell) at w.least_beside-next.ensures in
          subst (IsPointed c.args.net.now c.loop.order.items c.loop.placed.items c.first_open-place.result c.first_free-lowest.result) (sym w.next-is)
          (pointed-beside c.args.net.now c.loop.order.items c.loop.placed.items c.loop.place c.loop.lowest c.first_open-place.result c.first_free-lowest.result w.least_beside-next.result
          c.loop.invariant.walking inside closed opens low full least)
      | else-place-len w ↦
          let ends : c.first_open-place.result ≡ length c.loop.order.items =
          omega (arith, w.if-place-len.false, c.len.ensures, c.loop.order.ok.0, c.first_open-place.ensures.within, ap length listed) in
          let short : length c.loop.order.items < length c.args.net.now.cells =
          omega (arith, c.loop.invariant.long, c.loop-test.true, c.len-cells.ensures, c.net.inside.cells.ok.0, cells) in
          let free : c.first_free-lowest.result < length c.loop.placed.items → get_or c.loop.placed.items c.first_free-lowest.result false ≡ false =
          rw marks_again at c.first_free-lowest.ensures.free in
          subst (IsPointed c.args.net.now c.loop.order.items c.loop.placed.items c.first_open-place.result c.first_free-lowest.result) (sym w.next-is)
          (pointed-lowest c.args.net.now c.loop.order.items c.loop.placed.items c.loop.place c.loop.lowest c.first_open-place.result c.first_free-lowest.result
          c.loop.invariant.walking short ends closed low full free)
    ] in
    let more : c.push.new.self.items ≡ c.loop.order.items ++ c.if-place-len.next ∷ [] = c.in_ok-push.ensures.items in
    record {
      walking =
          subst (λ order. IsWalking c.args.net.now order (slice_set c.loop.placed.items c.if-place-len.next true) c.first_open-place.result c.first_free-lowest.result) (sym more)
          (walking-more c.args.net.now c.loop.order.items c.loop.placed.items c.loop.place c.loop.lowest c.first_open-place.result c.first_free-lowest.result c.if-place-len.next
          c.loop.invariant.walking pointed);
      long = omega (arith, ap length more, length_push c.loop.order.items c.if-place-len.next, c.loop.invariant.long);
    }

pub index_mut-requires : goal.index_mut-requires
index_mut-requires c =
    let connectors = connectors (goal.at.index_mut-requires c).After-as_slice-connectors in
    let marks : c.deref.result.now ≡ c.loop.placed.items = c.deref.ensures.value in
    let marks_again : c.deref-in-loop-2.result.now ≡ c.loop.placed.items = c.deref-in-loop-2.ensures.value in
    let listed : c.deref-in-loop.result.now ≡ c.loop.order.items = c.deref-in-loop.ensures.value in
    elim c.if-place-len.branch [
      | then-place-len w ↦
          let inside : c.first_open-place.result < length c.loop.order.items = omega (arith, w.if-place-len.true, c.len.ensures, c.loop.order.ok.0) in
          let opens : IsOpen c.args.net.now.connectors c.loop.placed.items (get_or c.loop.order.items c.first_open-place.result 0) =
          rw (connectors, marks, listed) at c.first_open-place.ensures.open (omega (arith, inside, ap length listed)) in
          let marks_here : w.deref-then-place-len.result.now ≡ c.loop.placed.items = w.deref-then-place-len.ensures.value in
          let cell : w.index.result.now ≡ get_or c.loop.order.items c.first_open-place.result 0 =
          w.index.ensures ∙ get_or_default c.loop.order.items c.first_open-place.result w.index.result.now 0 inside in
          let least : IsLeast (length c.loop.placed.items) (λ i. is_free c.loop.placed.items i && are_joined c.args.net.now.connectors (get_or c.loop.order.items c.first_open-place.result 0) i) w.least_beside-next.result =
          rw (connectors, marks_here, cell) at w.least_beside-next.ensures in
          omega (arith, w.next-is, c.loop.placed.ok.0, open-least c.args.net.now.connectors c.loop.placed.items (get_or c.loop.order.items c.first_open-place.result 0) w.least_beside-next.result opens least)
      | else-place-len w ↦
          let cells : length c.net.inside.cells.items ≡ length c.args.net.now.cells = ap (λ net. length net.cells) c.net.view_is in
          let short : length c.loop.order.items < length c.args.net.now.cells =
          omega (arith, c.loop.invariant.long, c.loop-test.true, c.len-cells.ensures, c.net.inside.cells.ok.0, cells) in
          let low : c.first_free-lowest.result ≤ length c.loop.placed.items = omega (arith, c.first_free-lowest.ensures.within, ap length marks_again) in
          let full : (i : ℕ) → c.loop.lowest ≤ i → i < c.first_free-lowest.result → get_or c.loop.placed.items i false ≡ true =
          rw marks_again at c.first_free-lowest.ensures.full in
          omega (arith, w.next-is, c.loop.placed.ok.0, lowest-below c.args.net.now c.loop.order.items c.loop.placed.items c.loop.place c.loop.lowest c.first_free-lowest.result c.loop.invariant.walking short low full)
    ]
