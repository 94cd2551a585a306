-- The regions that a shot takes, one after the other.
use Rattle.std.specs.Prelude.{slice_index}
use Rattle.std.specs.List.{Contains}
use Rattle.std.proofs.Common.{◌≡◌, ℕ, zero, suc, ◌+◌, ◌<◌, ◌≤◌, inl, inr, List, [], ◌∷◌, length, set, refl, sym, ap, subst, ◌∙◌, arith, rules}
use Rattle.std.proofs.lemmas.Bool.{cases_eq}
use Rattle.std.proofs.lemmas.List.{get_or-set_other, get_or-set_same, length-set}
use Rattle.atomic_table.specs.declared.shared.Seat.{Seat}
use Rattle.region_cut.specs.Cuttings.{region_count}
use Rattle.region_step.specs.Region.{RegionValue}
use Rattle.region_step.specs.Standing.{Stands}
use Rattle.border_rows.specs.Kinds.{found_at, found_taken, fresh, gathered, known_at, taken}
use Rattle.border_rows.specs.declared.view.Hold.{Hold}
use Rattle.border_rows.specs.declared.view.Terms.{Terms}
use Rattle.border_rows.specs.declared.view.View.{View}
use Rattle.region_slots.specs.FieldView.{FieldValue, HasCounts, HasSeenInTime, IsSeatOf}
use Rattle.region_slots.specs.Gathering.{AreCarried, HasGathered, HasStopped, HasTried, held_to}
use Rattle.region_slots.specs.Plays.{HoldsAll, Mine}
use Rattle.region_slots.specs.Shooting.{IsUnmoved}
use Rattle.region_slots.specs.Turning.{IsLater}
use Rattle.region_slots.proofs.Counts.{looked-in-time}
use Rattle.region_slots.proofs.NeighbourLooks.{later-set, seen-later}

-- what was seen of a later region changes no hold
held_to-same : (seen : List ℕ) (r t q : ℕ) → q ≤ r → held_to (set seen r t) q ≡ held_to seen q
held_to-same seen r t zero low = refl
held_to-same seen r t (suc q) low =
    ap (λ s. known_at (fresh q) s ∷ held_to (set seen r t) q) (get_or-set_other seen r q t 0 (λ same. absurd (omega (arith, low, same)))) ∙
    ap (λ holds. known_at (fresh q) (slice_index seen q) ∷ holds) (held_to-same seen r t q (omega (arith, low)))

carried-same : (terms : Terms) (seen : List ℕ) (r t q : ℕ) (carried : List (ℕ × RegionValue)) → q ≤ r → AreCarried terms seen q carried → AreCarried terms (set seen r t) q carried
carried-same terms seen r t zero carried low are = are
carried-same terms seen r t (suc q) carried low (state, others, is, stands, later) = (
  state,
  others,
  is,
  subst (λ s. Stands terms.setup.now q s state) (sym (get_or-set_other seen r q t 0 (λ same. absurd (omega (arith, low, same))))) stands,
  carried-same terms seen r t q others (omega (arith, low)) later,
)

-- each hold is of one of the first regions
pub held_to-below : (seen : List ℕ) (count : ℕ) (hold : Hold) → Contains (held_to seen count) hold → hold.region < count
held_to-below seen zero hold (k, within, is) = absurd (omega (arith, within))
held_to-below seen (suc r) hold (zero, within, is) = omega (arith, ap (λ (h : Hold). h.region) is)
held_to-below seen (suc r) hold (suc k, within, is) = omega (arith, held_to-below seen r hold (k, omega (arith, within), is))

-- and of each of them there is one
pub held_to-Contains : (seen : List ℕ) (count r : ℕ) → r < count → Contains (held_to seen count) (known_at (fresh r) (slice_index seen r))
held_to-Contains seen zero r low = absurd (omega (arith, low))
held_to-Contains seen (suc q) r low = elim (cases_eq r q) [
  | inl same ↦ subst (λ p. Contains (held_to seen (suc q)) (known_at (fresh p) (slice_index seen p))) (sym same) (0, omega arith, refl)
  | inr other ↦ let has = held_to-Contains seen q r (omega (arith, low, other)) in (suc has.0, omega (arith, has.1), has.2)
]

pub unmoved-same : (view : View) → IsUnmoved view view
unmoved-same view = search rules

-- a seat that holds nothing has taken none
pub gathered-none : (terms : Terms) (me : Mine) → HasCounts (region_count terms.setup.now.chart.cut) me.0 → HasSeenInTime terms me.0 → me.0.holds ≡ [] → me.1 ≡ [] → HasGathered terms me.0 0 me
gathered-none terms me counts in_time holds nothing = search (rules, unmoved-same me.0)

-- no try yet, and one more that finds the region taken
pub tried-none : (view : View) (r : ℕ) → HasTried view view r 0
tried-none view r = record { same = refl; long = refl; own = omega arith; others = λ q other. refl }

pub tried-more : (old view : View) (r tries : ℕ) → r < length old.held_found → HasTried old view r tries → HasTried old (found_taken view r) r (tries + 1)
tried-more old view r tries within tried =
    let count : ℕ = slice_index view.held_found r + 1 in
    record {
      same = ap (λ (v : View). found_taken v r) tried.same;
      long = length-set view.held_found r count ∙ tried.long;
      own = omega (arith, get_or-set_same view.held_found r count 0 (omega (arith, within, tried.long)), tried.own);
      others = λ q other. get_or-set_other view.held_found r q count 0 other ∙ tried.others q other;
    }

pub counts-tried : (count : ℕ) (old view : View) (r tries : ℕ) → HasTried old view r tries → HasCounts count old → HasCounts count view
counts-tried count old view r tries tried has =
    let found : length view.held_found ≡ count = tried.long ∙ has.held_found in
    subst (HasCounts count) (sym tried.same) assumption

unmoved-tried : (old view new : View) (r tries : ℕ) → IsUnmoved old view → HasTried view new r tries → IsUnmoved old new
unmoved-tried old view new r tries unmoved tried =
    let found : (q : ℕ) → slice_index old.held_found q ≤ slice_index new.held_found q = λ q. elim (cases_eq q r) [
      | inl own ↦ omega (arith, unmoved.held_found q, ap (slice_index new.held_found) own, ap (slice_index view.held_found) own, tried.own)
      | inr other ↦ omega (arith, unmoved.held_found q, tried.others q other)
    ] in
    subst (IsUnmoved old) (sym tried.same) assumption

-- the next region was found taken at each of the tries
pub gathered-stopped : (terms : Terms) (old new : View) (r tries : ℕ) (me : Mine) → HasGathered terms old r me → HasTried me.0 new r tries → HasStopped terms old r tries (new, me.1)
gathered-stopped terms old new r tries me has tried =
    let seen : new.seen ≡ me.0.seen = ap (λ (v : View). v.seen) tried.same in
    record {
      unmoved = unmoved-tried old me.0 new r tries has.unmoved tried;
      moments = (ap (λ (v : View). v.moments) tried.same ∙ has.moments.0, ap (λ (v : View). v.moment) tried.same ∙ has.moments.1);
      counts = counts-tried (region_count terms.setup.now.chart.cut) me.0 new r tries tried has.counts;
      in_time = λ q there. omega (arith, has.in_time q there, ap (λ l. slice_index l q) seen);
      holds = ap (λ (v : View). v.holds) tried.same ∙ has.holds ∙ ap (λ l. held_to l r) (sym seen);
      carried = subst (λ l. AreCarried terms l r me.1) (sym seen) has.carried;
      held_found = omega (arith, tried.own, has.untried r (omega arith));
    }

-- or it was taken, at this step
pub gathered-more : (terms : Terms) (old view : View) (r failed t : ℕ) (me : Mine) (state : RegionValue) → r < region_count terms.setup.now.chart.cut → HasGathered terms old r me → HasTried me.0 view r failed →
    slice_index view.seen r ≤ t → t ≤ terms.setup.now.net.steps → Stands terms.setup.now r t state →
    HasGathered terms old (r + 1) (found_at (taken view r) r t, (r, state) ∷ me.1)
gathered-more terms old view r failed t me state there has tried past now stands =
    let new : View = found_at (taken view r) r t in
    let stopped = gathered-stopped terms old view r failed me has tried in
    let next : suc r ≡ r + 1 = omega arith in
    let here : slice_index new.seen r ≡ t = get_or-set_same view.seen r t 0 (omega (arith, there, stopped.counts.seen)) in
    let count : ℕ = slice_index view.looks r + 1 in
    let look : slice_index new.looks r ≡ count = get_or-set_same view.looks r count 0 (omega (arith, there, stopped.counts.looks)) in
    let looks : (q : ℕ) → slice_index view.looks q ≡ slice_index me.0.looks q = λ q. ap (λ (v : View). slice_index v.looks q) tried.same in
    let later : IsLater old new = seen-later view.seen old view r t stopped.unmoved.seen refl past new refl in
    let raised : (q : ℕ) → slice_index old.looks q ≤ slice_index new.looks q = λ q. omega (arith, stopped.unmoved.looks q, later-set view.looks r count q (omega arith)) in
    subst (λ n. HasGathered terms old n (new, (r, state) ∷ me.1)) next record {
      unmoved = assumption;
      moments = stopped.moments;
      counts = record {
        seen = length-set view.seen r t ∙ stopped.counts.seen;
        held_found = stopped.counts.held_found;
        looks = length-set view.looks r count ∙ stopped.counts.looks;
        takes = length-set view.takes r (slice_index view.takes r + 1) ∙ stopped.counts.takes;
      };
      in_time = looked-in-time terms view r t stopped.in_time now;
      holds = ap (λ s. known_at (fresh r) t ∷ s) (stopped.holds ∙ sym (held_to-same view.seen r t r (omega arith))) ∙ ap (λ s. known_at (fresh r) s ∷ held_to new.seen r) (sym here);
      carried = (
        state,
        me.1,
        refl,
        subst (λ s. Stands terms.setup.now r s state) (sym here) stands,
        carried-same terms view.seen r t r me.1 (omega arith) stopped.carried,
      );
      looks = λ q low. elim (cases_eq q r) [
        | inl own ↦ omega (arith, ap (slice_index new.looks) own, look, looks r, has.unlooked r (omega arith), ap (slice_index old.looks) own)
        | inr other ↦ omega (arith, get_or-set_other view.looks r q count 0 other, looks q, has.looks q (omega (arith, low, other)))
      ];
      unlooked = λ q high. omega (arith, get_or-set_other view.looks r q count 0 (λ same. absurd (omega (arith, high, same))), looks q, has.unlooked q (omega (arith, high)));
      untried = λ q high. omega (arith, tried.others q (λ same. absurd (omega (arith, high, same))), has.untried q (omega (arith, high)));
    }

-- a seat goes on being the field's
pub seat-kept : (field : FieldValue) (old new : Seat RegionValue View) → IsSeatOf field old → new.table_id ≡ old.table_id → new.me.0.terms ≡ old.me.0.terms → new.me.0.share ≡ old.me.0.share → IsSeatOf field new
seat-kept field old new seat table terms share = record {
  table = table ∙ seat.table;
  terms = terms ∙ seat.terms;
  share = λ none. seat.share (sym share ∙ none);
}

-- the last of the regions that are held
pub held-top : (seen : List ℕ) (left r : ℕ) → left ≡ r + 1 → held_to seen left ≡ known_at (fresh r) (slice_index seen r) ∷ held_to seen r
held-top seen left r is = let next : left ≡ suc r = omega (arith, is) in ap (held_to seen) next

pub carried-top : (terms : Terms) (seen : List ℕ) (left r : ℕ) (carried : List (ℕ × RegionValue)) → left ≡ r + 1 → AreCarried terms seen left carried → AreCarried terms seen (suc r) carried
carried-top terms seen left r carried is are = let next : left ≡ suc r = omega (arith, is) in subst (λ n. AreCarried terms seen n carried) next are

-- a seat that has taken all holds them all
pub holds-all : (terms : Terms) (old : View) (me : Mine) → HasGathered terms old (region_count terms.setup.now.chart.cut) me → HoldsAll terms me.0
holds-all terms old me has = record {
  long = has.counts.seen;
  each = λ r there. (
    known_at (fresh r) (slice_index me.0.seen r),
    subst (λ holds. Contains holds (known_at (fresh r) (slice_index me.0.seen r))) (sym has.holds) (held_to-Contains me.0.seen (region_count terms.setup.now.chart.cut) r there),
    refl,
    refl,
    refl,
    refl,
  );
}

-- all are given back
pub unmoved-freed : (old view : View) → IsUnmoved old view → IsUnmoved old (record view { holds = [] })
unmoved-freed old view unmoved = assumption

pub counts-freed : (count : ℕ) (view : View) → HasCounts count view → HasCounts count (record view { holds = [] })
counts-freed count view has = assumption

-- and so they are once they were held together
pub unmoved-shot : (old view : View) → IsUnmoved old view → IsUnmoved old (record (gathered view) { holds = [] })
unmoved-shot old view unmoved = assumption
