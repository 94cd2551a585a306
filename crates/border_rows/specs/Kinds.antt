-- What each kind of atomic step makes of the view of the seat that makes it.
use Rattle.std.specs.Prelude.{ℕ, ◌+◌, ◌-◌, max, true, false, List, [], ◌∷◌, ◌++◌, length, map, slice_index, slice_set}
use Rattle.std.specs.List.{range_with_len}
use Rattle.border_rows.specs.declared.view.Hold.{Hold}
use Rattle.border_rows.specs.declared.view.View.{View}

-- one more of region r
abbrev pub raised : List ℕ → (r : ℕ) → List ℕ
raised counts r = slice_set counts r (slice_index counts r + 1)

-- region r, just taken: nothing is known of it yet
abbrev pub fresh : (r : ℕ) → Hold
fresh r = record { region = r; known = false; step = 0; cleared = []; written = 0; published = false }

-- the claim word of region r was free: the view holds it
abbrev pub taken : View → (r : ℕ) → View
taken view r = record view { tried = view.tried ++ r ∷ []; holds = fresh r ∷ view.holds }

-- the claim word of region r was taken
abbrev pub found_taken : View → (r : ℕ) → View
found_taken view r = record view { held_found = raised view.held_found r; tried = view.tried ++ r ∷ [] }

-- the step word of region r was looked at, and is t
abbrev pub looked : View → (r t : ℕ) → View
looked view r t = record view { seen = slice_set view.seen r t; looks = raised view.looks r }

-- so was that of the region that was taken last, whose step is known now
abbrev pub known_at : Hold → (t : ℕ) → Hold
known_at hold t = record hold { known = true; step = t }

abbrev pub with_first : (Hold → Hold) → List Hold → List Hold
with_first change [] = []
with_first change (hold ∷ holds) = change hold ∷ holds

abbrev pub found_at : View → (r t : ℕ) → View
found_at view r t = record (looked view r t) { takes = raised view.takes r; holds = with_first (λ hold. known_at hold t) view.holds }

-- the step word of neighbour q of the region held last was read, and is s: at the region's step or past it
abbrev pub cleared : View → (q s : ℕ) → View
cleared view q s = record view {
  seen = slice_set view.seen q s;
  holds = with_first (λ hold. record hold { cleared = q ∷ hold.cleared }) view.holds;
}

-- or a step lower
abbrev pub found_short : View → (r q s : ℕ) → View
found_short view r q s = record view {
  seen = slice_set view.seen q s;
  short_found = view.short_found + 1;
  last_short = record { region = r; neighbour = q; step = s };
}

-- one more border word of the step to come is written
abbrev pub wrote : View → View
wrote view = record view { holds = with_first (λ hold. record hold { written = hold.written + 1 }) view.holds }

-- step s of region r is published
abbrev pub published : View → (r s : ℕ) → View
published view r s = record view {
  seen = slice_set view.seen r s;
  log = record { region = r; step = s } ∷ view.log;
  reach = max view.reach s;
  holds = with_first (λ hold. record hold { published = true }) view.holds;
}

-- the region held last is given back
abbrev pub later_of : List Hold → List Hold
later_of [] = []
later_of (hold ∷ holds) = holds

abbrev pub freed : View → View
freed view = record view { holds = later_of view.holds }

-- at this moment the view holds all regions, each at the step that it has seen of it
abbrev pub gathered : View → View
gathered view = record view { moments = view.moments + 1; moment = view.seen }

-- a seat of share 1 is shared off, which has seen as much and has counted nothing
abbrev pub none_of : List ℕ → List ℕ
none_of counts = map (λ n. 0) counts

abbrev pub shared_off : View → View
shared_off view = record view {
  share = 1;
  log = [];
  splits = 0;
  held_found = none_of view.held_found;
  short_found = 0;
  last_short = record { region = 0; neighbour = 0; step = 0 };
  looks = none_of view.looks;
  takes = none_of view.takes;
  tried = [];
  moments = 0;
  moment = [];
  holds = [];
}

-- and the seat keeps the rest
abbrev pub kept : View → View
kept view = record view { share = view.share - 1; splits = view.splits + 1 }

-- two lists, item by item
abbrev pub together : (ℕ → ℕ → ℕ) → List ℕ → List ℕ → List ℕ
together f xs ys = map (λ r. f (slice_index xs r) (slice_index ys r)) (range_with_len 0 (length xs))

-- two seats become one
abbrev pub united : View → View → View
united view other = record view {
  share = view.share + other.share;
  seen = together max view.seen other.seen;
  log = view.log ++ other.log;
  reach = max view.reach other.reach;
  splits = view.splits + other.splits;
  held_found = together (λ a b. a + b) view.held_found other.held_found;
  short_found = view.short_found + other.short_found;
  looks = together (λ a b. a + b) view.looks other.looks;
  takes = together (λ a b. a + b) view.takes other.takes;
  tried = view.tried ++ other.tried;
  moments = view.moments + other.moments;
}

-- and the other is spent
abbrev pub spent : View
spent = record {
  terms = [];
  share = 0;
  seen = [];
  log = [];
  reach = 0;
  splits = 0;
  held_found = [];
  short_found = 0;
  last_short = record { region = 0; neighbour = 0; step = 0 };
  looks = [];
  takes = [];
  tried = [];
  moments = 0;
  moment = [];
  holds = [];
}
