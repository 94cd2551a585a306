-- The first seat of a field.
use Rattle.std.specs.Prelude.{[], ◌∷◌, map}
use Rattle.border_rows.specs.declared.view.Terms.{Terms}
use Rattle.border_rows.specs.declared.view.View.{View}

-- it has all of the field's seats, and has seen where the regions start
abbrev pub first_view : Terms → View
first_view terms = record {
  terms = terms ∷ [];
  share = terms.seats;
  seen = terms.setup.now.start.steps;
  log = [];
  reach = 0;
  splits = 0;
  held_found = map (λ s. 0) terms.setup.now.start.steps;
  short_found = 0;
  last_short = record { region = 0; neighbour = 0; step = 0 };
  looks = map (λ s. 0) terms.setup.now.start.steps;
  takes = map (λ s. 0) terms.setup.now.start.steps;
  tried = [];
  moments = 0;
  moment = [];
  holds = [];
}
