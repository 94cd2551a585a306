-- A cell that is joined to the next, and the links that follow.
use Rattle.std.specs.Prelude.{slice_index}
use Rattle.std.proofs.Common.{◌≡◌, ◌≢◌, ℕ, ◌+◌, ◌<◌, ◌≤◌, inl, inr, List, [], ◌∷◌, ◌++◌, length, get_or, set, refl, sym, ap, ◌∙◌, arith}
use Rattle.std.proofs.lemmas.Bool.{cases_eq}
use Rattle.std.proofs.lemmas.List.{get_or-set_other, get_or-set_same, get_or_append_left, get_or_push, length-set, length_push}
use Rattle.std.proofs.lemmas.List.Elements.{All-push}
use Rattle.step_plan.specs.Records.{PlanRecords}
use Rattle.cell_sweep.specs.CellStates.{no_state, cell_state_at}
use Rattle.cell_sweep.specs.declared.cell_state.CellState.{CellState}
use Rattle.timelines.specs.Timelines.{IsSteady}
use Rattle.timelines.specs.Links.{LinkValues, most_at, most_between}
use Rattle.region_body.specs.FollowedLinks.{AreFollowed, IsTimeline, IsFollowed}
use Rattle.region_body.specs.declared.followed_link.FollowedLink.{FollowedLink}
use Rattle.region_body.specs.Joining.{Extends}

-- the timeline of the link from the p-th cell to the next, and what it carries at most from step t on
pub record IsJoined (plan : PlanRecords) (cells : List ℕ) (p t : ℕ) (timeline : LinkValues) (value until : ℕ) : Type 0 where
  pub timeline_is : (s : ℕ) → most_at timeline s ≡ most_between plan (slice_index cells p) (slice_index cells (p + 1)) s
  pub value_is : value ≡ most_at timeline t
  pub steady : IsSteady (most_at timeline) t until

-- the other cells
others-follow : (plan : PlanRecords) (cells : List ℕ) (most later : ℕ → ℕ → ℕ) (state : CellState) (links after : List FollowedLink) (t p q m : ℕ) →
    Extends plan cells p links most later → q ≢ p → length links ≤ length after →
    ((k : ℕ) (d : FollowedLink) → k < length links → get_or after k d ≡ get_or links k d) →
    IsFollowed most state links t q m → IsFollowed later state after t q m
others-follow plan cells most later state links after t p q m extends other longer same has = record {
  there = let there = has.there in omega arith;
  its = λ d. ap (λ link. link.place) (same m d has.there) ∙ has.its d;
  steady = λ d s from within.
      has.steady d s from (rw (same m d has.there) at within) ∙ sym (extends.others q s other);
}

-- the most never changes
pub joined-constant : (plan : PlanRecords) (cells : List ℕ) (most later : ℕ → ℕ → ℕ) (states : List CellState) (links : List FollowedLink) (t p : ℕ)
    (timeline : LinkValues) (value until : ℕ) → p < length states → IsJoined plan cells p t timeline value until →
    ((s u : ℕ) → most_at timeline s ≡ most_at timeline u) → AreFollowed most states links t → Extends plan cells p links most later →
    AreFollowed later (set states p (record (cell_state_at states p) { most = value })) links t
joined-constant plan cells most later states links t p timeline value until there joined constant followed extends =
    let state : CellState = record (cell_state_at states p) { most = value } in
    record {
      timelines = λ k d within s. followed.timelines k d within s ∙ sym (extends.linked k d within s);
      each = λ q lt. elim (cases_eq q p) [
        | inl same ↦ rw (same, get_or-set_same states p state no_state there)
            (inl (λ s from. joined.value_is ∙ constant t s ∙ joined.timeline_is s ∙ sym (extends.here s)))
        | inr other ↦ rw (get_or-set_other states p q state no_state other)
            (elim (followed.each q (omega (arith, length-set states p state))) [
              | inl steady ↦ inl (λ s from. steady s from ∙ sym (extends.others q s other))
              | inr (m, has) ↦ inr (m, others-follow plan cells most later (cell_state_at states q) links links t p q m extends other (omega arith) (λ k d within. refl) has)
            ])
      ];
    }

-- the most changes, and a link follows it
pub joined-followed : (plan : PlanRecords) (cells : List ℕ) (most later : ℕ → ℕ → ℕ) (states : List CellState) (links : List FollowedLink) (t p : ℕ)
    (link : FollowedLink) (value : ℕ) → p < length states → IsJoined plan cells p t link.timeline value link.until → link.place ≡ p →
    AreFollowed most states links t → Extends plan cells p links most later →
    AreFollowed later (set states p (record (cell_state_at states p) { most = value })) (links ++ link ∷ []) t
joined-followed plan cells most later states links t p link value there joined its followed extends =
    let state : CellState = record (cell_state_at states p) { most = value } in
    let after : List FollowedLink = links ++ link ∷ [] in
    let longer = length_push links link in
    record {
      timelines = All-push (IsTimeline later) links link (λ k d within s. followed.timelines k d within s ∙ sym (extends.linked k d within s))
          (λ s. joined.timeline_is s ∙ sym (extends.here s) ∙ ap (λ q. later q s) (sym its));
      each = λ q lt. elim (cases_eq q p) [
        | inl same ↦ rw (same, get_or-set_same states p state no_state there)
            (inr (
              length links,
              record {
                there = omega arith;
                its = λ d. ap (λ one. one.place) (get_or_push links link d (length links) refl) ∙ its;
                steady = λ d s from within.
                    joined.value_is ∙ sym (joined.steady s from (rw (get_or_push links link d (length links) refl) at within))
                    ∙ joined.timeline_is s ∙ sym (extends.here s);
              },
            ))
        | inr other ↦ rw (get_or-set_other states p q state no_state other)
            (elim (followed.each q (omega (arith, length-set states p state))) [
              | inl steady ↦ inl (λ s from. steady s from ∙ sym (extends.others q s other))
              | inr (m, has) ↦ inr (
                m,
                others-follow plan cells most later (cell_state_at states q) links after t p q m extends other (omega arith)
                    (λ k d within. get_or_append_left links (link ∷ []) d k within) has,
              )
            ])
      ];
    }
