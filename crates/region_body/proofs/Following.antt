-- Links whose changes are written one after the other.
use Rattle.std.specs.Prelude.{All, ◌⊎◌}
use Rattle.std.proofs.Common.{◌≡◌, ◌≢◌, ℕ, ◌+◌, ◌<◌, ◌≤◌, List, length, refl, sym, ap, ◌∙◌, subst, inl, inr, arith}
use Rattle.std.proofs.Math.ListN.{get_or, set, length-set}
use Rattle.std.proofs.lemmas.Bool.{cases_eq}
use Rattle.std.proofs.lemmas.List.{get_or-set_same, get_or-set_other}
use Rattle.cell_sweep.specs.CellStates.{no_state, cell_state_at}
use Rattle.cell_sweep.specs.declared.cell_state.CellState.{CellState}
use Rattle.timelines.specs.Links.{most_at}
use Rattle.region_body.specs.FollowedLinks.{AreFollowed, IsChanged, IsTimeline, IsFollowed, IsLinkThere, IsUnchanged}
use Rattle.region_body.specs.declared.followed_link.FollowedLink.{FollowedLink}

-- the first j links are refreshed: all follow on, no state has changed but for its most, and where one of the first j
-- follows a place its state has the most of step t
pub record IsRefreshed (most : ℕ → ℕ → ℕ) (first states : List CellState) (links : List FollowedLink) (t j : ℕ) : Type 0 where
  pub followed : AreFollowed most states links t
  pub only_most : (p : ℕ) → cell_state_at states p ≡ record (cell_state_at first p) { most = (cell_state_at states p).most }
  pub now : (p m : ℕ) → m < j → IsFollowed most (cell_state_at states p) links t p m → (cell_state_at states p).most ≡ most p t

-- what one link more does to its state
abbrev Kept : (ℕ → ℕ → ℕ) → (before after : CellState) → (q t : ℕ) → Type 0
Kept most before after q t = (after.most ≡ before.most) ⊎ (after.most ≡ most q t)

-- a place that another link follows too
kept-steady : (most : ℕ → ℕ → ℕ) (before after : CellState) (q t u s : ℕ) → Kept most before after q t →
    ((s : ℕ) → t ≤ s → s < u → before.most ≡ most q s) → t ≤ s → s < u → after.most ≡ most q s
kept-steady most before after q t u s (inl same) steady from within = same ∙ steady s from within
kept-steady most before after q t u s (inr now) steady from within =
    now ∙ sym (steady t (omega arith) (omega arith)) ∙ steady s from within

kept-constant : (most : ℕ → ℕ → ℕ) (before after : CellState) (q t s : ℕ) → Kept most before after q t →
    ((s : ℕ) → t ≤ s → before.most ≡ most q s) → t ≤ s → after.most ≡ most q s
kept-constant most before after q t s (inl same) constant from = same ∙ constant s from
kept-constant most before after q t s (inr now) constant from = now ∙ sym (constant t (omega arith)) ∙ constant s from

-- one link more: what it was and is, and what its state is then
pub record IsStep (most : ℕ → ℕ → ℕ) (states : List CellState) (links : List FollowedLink) (t j : ℕ) (old new : FollowedLink) (after : CellState) : Type 0 where
  pub within : j < length links
  pub read : (d : FollowedLink) → get_or links j d ≡ old
  pub there : old.place < length states
  pub its : new.place ≡ old.place
  pub timeline : (s : ℕ) → most_at new.timeline s ≡ most_at old.timeline s
  pub only_most : after ≡ record (cell_state_at states old.place) { most = after.most }
  pub due : IsUnchanged old new (cell_state_at states old.place) after t ⊎ IsChanged old new after t

old-timeline : (most : ℕ → ℕ → ℕ) (states : List CellState) (links : List FollowedLink) (t j : ℕ) (old new : FollowedLink) (after : CellState) →
    IsStep most states links t j old new after → All (IsTimeline most) links → IsTimeline most old
old-timeline most states links t j old new after step timelines = rw (step.read old) at (timelines j old step.within)

kept : (most : ℕ → ℕ → ℕ) (states : List CellState) (links : List FollowedLink) (t j : ℕ) (old new : FollowedLink) (after : CellState) →
    IsStep most states links t j old new after → All (IsTimeline most) links → Kept most (cell_state_at states old.place) after old.place t
kept most states links t j old new after step timelines = elim step.due [
  | inl same ↦ inl same.most
  | inr now ↦ inr (now.most ∙ old-timeline most states links t j old new after step timelines t)
]

timelines-more : (most : ℕ → ℕ → ℕ) (states : List CellState) (links : List FollowedLink) (t j : ℕ) (old new : FollowedLink) (after : CellState) →
    IsStep most states links t j old new after → All (IsTimeline most) links → All (IsTimeline most) (set links j new)
timelines-more most states links t j old new after step timelines = λ k d within. elim (cases_eq k j) [
  | inl same ↦ rw (same, get_or-set_same links j new d step.within)
      (λ s. step.timeline s ∙ old-timeline most states links t j old new after step timelines s ∙ ap (λ p. most p s) (sym step.its))
  | inr other ↦ rw (get_or-set_other links j k new d other) (timelines k d (omega (arith, length-set links j new)))
]

-- another link than the one of this step
other-link : (most : ℕ → ℕ → ℕ) (state after : CellState) (links : List FollowedLink) (t j p m : ℕ) (new : FollowedLink) → m ≢ j →
    IsFollowed most state links t p m → ((u s : ℕ) → ((s : ℕ) → t ≤ s → s < u → state.most ≡ most p s) → t ≤ s → s < u → after.most ≡ most p s) →
    IsFollowed most after (set links j new) t p m
other-link most state after links t j p m new other has stays = record {
  there = rw (length-set links j new) has.there;
  its = λ d. rw (get_or-set_other links j m new d other) (has.its d);
  steady = λ d s from within.
      stays (get_or links m d).until s (has.steady d) from (rw (get_or-set_other links j m new d other) at within);
}

-- the link of this step follows its place on
this-link : (most : ℕ → ℕ → ℕ) (states : List CellState) (links : List FollowedLink) (t j : ℕ) (old new : FollowedLink) (after : CellState) →
    IsStep most states links t j old new after → All (IsTimeline most) links → IsFollowed most (cell_state_at states old.place) links t old.place j →
    IsFollowed most after (set links j new) t old.place j
this-link most states links t j old new after step timelines has = record {
  there = rw (length-set links j new) step.within;
  its = λ d. rw (get_or-set_same links j new d step.within) step.its;
  steady = λ d s from within.
      let before : s < new.until = rw (get_or-set_same links j new d step.within) at within in
      let timeline = old-timeline most states links t j old new after step timelines in
      elim step.due [
        | inl same ↦ same.most ∙ has.steady old s from (rw (step.read old) (omega (arith, same.until)))
        | inr now ↦ now.most ∙ sym (now.steady s from before) ∙ timeline s
      ];
}

-- the place of this step, and the others
followed-here : (most : ℕ → ℕ → ℕ) (states : List CellState) (links : List FollowedLink) (t j : ℕ) (old new : FollowedLink) (after : CellState) →
    IsStep most states links t j old new after → AreFollowed most states links t →
    ((s : ℕ) → t ≤ s → after.most ≡ most old.place s) ⊎ ((m : ℕ) × IsFollowed most after (set links j new) t old.place m)
followed-here most states links t j old new after step followed =
    let q : ℕ = old.place in
    let before : CellState = cell_state_at states q in
    let keeps = kept most states links t j old new after step followed.timelines in
    elim (followed.each q step.there) [
      | inl constant ↦ inl (λ s from. kept-constant most before after q t s keeps constant from)
      | inr (m, has) ↦ elim (cases_eq m j) [
        | inl same ↦
            inr (j, this-link most states links t j old new after step followed.timelines (subst (λ k. IsFollowed most before links t q k) same has))
        | inr other ↦
            inr (m, other-link most before after links t j q m new other has (λ u s steady from within. kept-steady most before after q t u s keeps steady from within))
      ]
    ]

followed-there : (most : ℕ → ℕ → ℕ) (states : List CellState) (links : List FollowedLink) (t j p : ℕ) (old new : FollowedLink) (after : CellState) →
    IsStep most states links t j old new after → AreFollowed most states links t → p < length states → p ≢ old.place →
    ((s : ℕ) → t ≤ s → (cell_state_at states p).most ≡ most p s) ⊎ ((m : ℕ) × IsFollowed most (cell_state_at states p) (set links j new) t p m)
followed-there most states links t j p old new after step followed lt other = elim (followed.each p lt) [
  | inl constant ↦ inl constant
  | inr (m, has) ↦ elim (cases_eq m j) [
    | inl same ↦
        let its : (get_or links j old).place ≡ p = subst (λ k. (get_or links k old).place ≡ p) same (has.its old) in
        absurd (other (sym its ∙ ap (λ link. link.place) (step.read old)))
    | inr apart ↦ inr (m, other-link most (cell_state_at states p) (cell_state_at states p) links t j p m new apart has (λ u s steady from within. steady s from within))
  ]
]

pub followed-more : (most : ℕ → ℕ → ℕ) (states : List CellState) (links : List FollowedLink) (t j : ℕ) (old new : FollowedLink) (after : CellState) →
    IsStep most states links t j old new after → AreFollowed most states links t → AreFollowed most (set states old.place after) (set links j new) t
followed-more most states links t j old new after step followed = record {
  timelines = timelines-more most states links t j old new after step followed.timelines;
  each = λ p lt. elim (cases_eq p old.place) [
    | inl same ↦
        rw (same, get_or-set_same states old.place after no_state step.there) (followed-here most states links t j old new after step followed)
    | inr other ↦
        rw (get_or-set_other states old.place p after no_state other)
        (followed-there most states links t j p old new after step followed (omega (arith, length-set states old.place after)) other)
  ];
}

only_most-more : (first : List CellState) (states : List CellState) (q p : ℕ) (after : CellState) → q < length states →
    after ≡ record (cell_state_at states q) { most = after.most } →
    ((p : ℕ) → cell_state_at states p ≡ record (cell_state_at first p) { most = (cell_state_at states p).most }) →
    cell_state_at (set states q after) p ≡ record (cell_state_at first p) { most = (cell_state_at (set states q after) p).most }
only_most-more first states q p after there only before = elim (cases_eq p q) [
  | inl same ↦
      rw (same, get_or-set_same states q after no_state there)
      (only ∙ ap {B = CellState} (λ (state : CellState). record state { most = after.most }) (before q))
  | inr other ↦ rw (get_or-set_other states q p after no_state other) (before p)
]

-- the state has the most of step t where one of the first links follows it
now-here : (most : ℕ → ℕ → ℕ) (first states : List CellState) (links : List FollowedLink) (t j m : ℕ) (old new : FollowedLink) (after : CellState) →
    IsStep most states links t j old new after → IsRefreshed most first states links t j → m < j + 1 →
    IsFollowed most after (set links j new) t old.place m → after.most ≡ most old.place t
now-here most first states links t j m old new after step refreshed below has =
    let q : ℕ = old.place in
    elim step.due [
      | inr now ↦ now.most ∙ old-timeline most states links t j old new after step refreshed.followed.timelines t
      | inl same ↦ elim (cases_eq m j) [
        | inl this ↦
            let until : t < (get_or (set links j new) m old).until =
            rw (this, get_or-set_same links j new old step.within) (omega (arith, same.until, same.later)) in
            has.steady old t (omega arith) until
        | inr other ↦
            same.most ∙ refreshed.now q m (omega arith) (record {
              there = rw (length-set links j new) at has.there;
              its = λ d. rw (get_or-set_other links j m new d other) at (has.its d);
              steady = λ d s from within.
                  sym same.most ∙ has.steady d s from (rw (get_or-set_other links j m new d other) within);
            })
      ]
    ]

now-there : (most : ℕ → ℕ → ℕ) (first states : List CellState) (links : List FollowedLink) (t j p m : ℕ) (old new : FollowedLink) (after : CellState) →
    IsStep most states links t j old new after → IsRefreshed most first states links t j → p ≢ old.place → m < j + 1 →
    IsFollowed most (cell_state_at states p) (set links j new) t p m → (cell_state_at states p).most ≡ most p t
now-there most first states links t j p m old new after step refreshed other below has = elim (cases_eq m j) [
  | inl this ↦
      let its : (get_or (set links j new) j old).place ≡ p = subst (λ k. (get_or (set links j new) k old).place ≡ p) this (has.its old) in
      absurd (other (sym its ∙ ap (λ link. link.place) (get_or-set_same links j new old step.within) ∙ step.its))
  | inr apart ↦ refreshed.now p m (omega arith) (record {
    there = rw (length-set links j new) at has.there;
    its = λ d. rw (get_or-set_other links j m new d apart) at (has.its d);
    steady = λ d s from within. has.steady d s from (rw (get_or-set_other links j m new d apart) within);
  })
]

pub refreshed-more : (most : ℕ → ℕ → ℕ) (first states : List CellState) (links : List FollowedLink) (t j : ℕ) (old new : FollowedLink) (after : CellState) →
    IsStep most states links t j old new after → IsRefreshed most first states links t j →
    IsRefreshed most first (set states old.place after) (set links j new) t (j + 1)
refreshed-more most first states links t j old new after step refreshed =
    let q : ℕ = old.place in
    record {
      followed = followed-more most states links t j old new after step refreshed.followed;
      only_most = λ p. only_most-more first states q p after step.there step.only_most refreshed.only_most;
      now = λ p m below has. elim (cases_eq p q) [
        | inl same ↦
            let at : cell_state_at (set states q after) p ≡ after =
            ap (cell_state_at (set states q after)) same ∙ get_or-set_same states q after no_state step.there in
            let here : IsFollowed most after (set links j new) t q m =
            subst (λ state. IsFollowed most state (set links j new) t q m) at
            (subst (λ k. IsFollowed most (cell_state_at (set states q after) p) (set links j new) t k m) same has) in
            ap (λ state. state.most) at ∙ now-here most first states links t j m old new after step refreshed below here
            ∙ ap (λ k. most k t) (sym same)
        | inr other ↦
            let at : cell_state_at (set states q after) p ≡ cell_state_at states p = get_or-set_other states q p after no_state other in
            ap (λ state. state.most) at
            ∙ now-there most first states links t j p m old new after step refreshed other below
            (subst (λ state. IsFollowed most state (set links j new) t p m) at has)
      ];
    }

pub refreshed-none : (most : ℕ → ℕ → ℕ) (states : List CellState) (links : List FollowedLink) (t : ℕ) → AreFollowed most states links t →
    IsRefreshed most states states links t 0
refreshed-none most states links t followed = record {
  followed = followed;
  only_most = λ p. refl;
  now = λ p m below has. absurd (omega arith);
}

-- all are refreshed
pub refreshed-all : (most : ℕ → ℕ → ℕ) (first states : List CellState) (links : List FollowedLink) (t j p : ℕ) → IsRefreshed most first states links t j →
    length links ≤ j → p < length states → cell_state_at states p ≡ record (cell_state_at first p) { most = most p t }
refreshed-all most first states links t j p refreshed all within =
    refreshed.only_most p ∙ ap {B = CellState} (λ m. record (cell_state_at first p) { most = m }) (elim (refreshed.followed.each p within) [
      | inl constant ↦ constant t (omega arith)
      | inr (m, has) ↦ let there = has.there in refreshed.now p m (omega arith) has
    ])

-- links that are there stay there
pub there-more : (count t j : ℕ) (links : List FollowedLink) (old new : FollowedLink) → j < length links → get_or links j old ≡ old →
    new.place ≡ old.place → new.timeline.step ≤ t → All (IsLinkThere count t) links → All (IsLinkThere count t) (set links j new)
there-more count t j links old new within read its step there = λ k d inside. elim (cases_eq k j) [
  | inl same ↦
      let was = rw read at (there j old within) in
      rw (same, get_or-set_same links j new d within) (record { place = omega (arith, was.place, its); step = step })
  | inr other ↦ rw (get_or-set_other links j k new d other) (there k d (omega (arith, length-set links j new)))
]
