-- What contracts see of the seats at a field.
use Rattle.std.specs.Prelude.{ℕ, ◌==◌, ◌&&◌, List, sum_by}
use Rattle.std.specs.List.{Contains, count_by}
use Rattle.border_rows.specs.declared.view.Hold.{Hold}
use Rattle.border_rows.specs.declared.view.PublishedStep.{PublishedStep}
use Rattle.border_rows.specs.declared.view.View.{View}

-- how many views hold region r, and how many of them know its step
abbrev pub holders : List View → (r : ℕ) → ℕ
holders views r = sum_by (λ view. count_by (λ hold. hold.region == r) view.holds) views

abbrev pub knowers : List View → (r : ℕ) → ℕ
knowers views r = sum_by (λ view. count_by (λ hold. (hold.region == r) && hold.known) view.holds) views

-- how often step s of region r stands in a log
abbrev pub times_in : List PublishedStep → (r s : ℕ) → ℕ
times_in log r s = count_by (λ entry. (entry.region == r) && (entry.step == s)) log

-- one of the views holds a region so
pub record IsHeld (views : List View) (view : View) (hold : Hold) : Type 0 where
  pub seat : Contains views view
  pub held : Contains view.holds hold
