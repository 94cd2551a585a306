-- One move of a step: so much leaves a row, or so much enters it.
use Rattle.std.specs.Prelude.{map, if◌then◌else◌, ◌==◌}
use Rattle.std.specs.List.{range_with_len}
use Rattle.std.proofs.Common.{◌≡◌, inl, inr, ℕ, add-zero, zero-add, ◌+◌, ◌-◌, ◌<◌, ◌≤◌, ◌^◌, true, false, List, length, set, arith, refl, sym, ap, ◌∙◌}
use Rattle.std.proofs.lemmas.Bool.{cases_Bool, cases_eq, eq-eqb, ne_eqb}
use Rattle.std.proofs.lemmas.List.{length-set, get_or-set_same, get_or-set_other, ext_get_or}
use Rattle.std.proofs.lemmas.List.FromFn.{length-map-range_with_len, get_or-map-range_with_len}
use Rattle.network_file.specs.Cells.{is_exit_at}
use Rattle.network_file.specs.Network.{Network}
use Rattle.network_file.specs.Sound.{IsNetwork}
use Rattle.flow_model.specs.Bounds.{IsRowInBounds, AreInBounds}
use Rattle.flow_model.specs.Flows.{inflow, outflow}
use Rattle.flow_model.specs.Rows.{empty_row, moved_row, next_row}
use Rattle.flow_model.specs.State.{row_at, occupancy, next_rows}
use Rattle.flow_model.specs.Moves.{CanLeave, CanEnter, row_less, row_more, with_connectors}
use Rattle.flow_model.specs.declared.row.Row.{Row}
use Rattle.flow_model.proofs.Bounds.{IsChange, moved_row-in_bounds, small}

-- a move out of a row under way, where with it no more has left the cell than may
pub record IsMoveOut (net : Network) (i : ℕ) (row : Row) (enters leaves parts : ℕ) : Type 0 where
  pub held : parts ≤ (moved_row net i row enters leaves).n
  pub waiting : parts ≤ (moved_row net i row enters leaves).wait
  pub fits : (moved_row net i row enters leaves).gone + parts < 2 ^ 64
  pub done : row_less (moved_row net i row enters leaves) parts ≡ moved_row net i row enters (leaves + parts)

pub moves_out : (net : Network) (t i : ℕ) (row : Row) (enters leaves parts : ℕ) → IsNetwork net → t < net.steps →
    i < length net.cells → IsRowInBounds net t i row → IsChange net t i row.n enters (leaves + parts) →
    IsMoveOut net i row enters leaves parts
moves_out net t i row enters leaves parts sound before has bounds change =
    let small_row = small net t i row sound (omega arith) has bounds in
    elim (cases_Bool (is_exit_at net.cells i)) [
      | inl exit ↦
          let none : leaves + parts ≡ 0 = change.exit exit in
          let n : row.n + enters - leaves - parts ≡ row.n + enters - (leaves + parts) = omega arith in
          let gone : row.gone + leaves + parts ≡ row.gone + (leaves + parts) = omega arith in
          let wait : row.wait - parts ≡ row.wait = omega arith in
          record {
            held = omega (arith, change.held);
            waiting = rw exit (omega arith);
            fits = omega (arith, small_row.gone, change.sent);
            done = rw exit cc;
          }
      | inr no_exit ↦
          let n : row.n + enters - leaves - parts ≡ row.n + enters - (leaves + parts) = omega arith in
          let gone : row.gone + leaves + parts ≡ row.gone + (leaves + parts) = omega arith in
          let wait : row.wait + (row.n - leaves) - parts ≡ row.wait + (row.n - (leaves + parts)) = omega (arith, change.held) in
          record {
            held = omega (arith, change.held);
            waiting = rw no_exit (omega (arith, change.held));
            fits = omega (arith, small_row.gone, change.sent);
            done = rw no_exit cc;
          }
    ]

-- a move into it, where with it no more has entered the cell than may
pub record IsMoveIn (net : Network) (i : ℕ) (row : Row) (enters leaves parts : ℕ) : Type 0 where
  pub fits : (moved_row net i row enters leaves).n + parts < 2 ^ 64
  pub all_fit : (moved_row net i row enters leaves).come + parts < 2 ^ 64
  pub done : row_more (moved_row net i row enters leaves) parts ≡ moved_row net i row (enters + parts) leaves

pub moves_in : (net : Network) (t i : ℕ) (row : Row) (enters leaves parts : ℕ) → IsNetwork net → t < net.steps →
    i < length net.cells → IsRowInBounds net t i row → IsChange net t i row.n (enters + parts) leaves →
    IsMoveIn net i row enters leaves parts
moves_in net t i row enters leaves parts sound before has bounds change =
    let after = small net (t + 1) i (moved_row net i row (enters + parts) leaves) sound (omega arith) has
    (moved_row-in_bounds net t i row (enters + parts) leaves sound before has bounds change) in
    let n : row.n + enters - leaves + parts ≡ row.n + (enters + parts) - leaves = omega (arith, change.held) in
    let come : row.come + enters + parts ≡ row.come + (enters + parts) = omega arith in
    record {
      fits = omega (arith, after.n);
      all_fit = omega (arith, after.come);
      done = cc;
    }

-- all rows after so much entered each cell and so much left it
unfoldable pub rows_moved : Network → List Row → (enters leaves : ℕ → ℕ) → List Row
rows_moved net rows enters leaves =
    map (λ i. moved_row net i (row_at rows i) (enters i) (leaves i)) (range_with_len 0 (length net.cells))

-- they are so after a step, and after the first connectors carried their flows in it
pub next_rows-moved : (net : Network) (t : ℕ) (rows : List Row) →
    next_rows net t rows ≡ rows_moved net rows (inflow net t (occupancy rows)) (outflow net t (occupancy rows))
unfolding next_rows next_row rows_moved
next_rows-moved net t rows = refl

pub next_rows-with_connectors : (net : Network) (t k : ℕ) (rows : List Row) →
    next_rows (with_connectors net k) t rows ≡
    rows_moved net rows (inflow (with_connectors net k) t (occupancy rows)) (outflow (with_connectors net k) t (occupancy rows))
unfolding next_rows next_row rows_moved
next_rows-with_connectors net t k rows = refl

pub length-rows_moved : (net : Network) (rows : List Row) (enters leaves : ℕ → ℕ) → length (rows_moved net rows enters leaves) ≡ length net.cells
unfolding rows_moved
length-rows_moved net rows enters leaves =
    length-map-range_with_len (λ i. moved_row net i (row_at rows i) (enters i) (leaves i)) 0 (length net.cells)

pub row_at-rows_moved : (net : Network) (rows : List Row) (enters leaves : ℕ → ℕ) (i : ℕ) → i < length net.cells →
    row_at (rows_moved net rows enters leaves) i ≡ moved_row net i (row_at rows i) (enters i) (leaves i)
unfolding rows_moved
row_at-rows_moved net rows enters leaves i has =
    get_or-map-range_with_len (λ i. moved_row net i (row_at rows i) (enters i) (leaves i)) 0 (length net.cells) i i empty_row has
    (zero-add i)

-- rows are those after these moves where each of them is
pub rows_moved-from_each : (net : Network) (rows now : List Row) (enters leaves : ℕ → ℕ) → length now ≡ length net.cells →
    ((i : ℕ) → i < length net.cells → row_at now i ≡ moved_row net i (row_at rows i) (enters i) (leaves i)) →
    now ≡ rows_moved net rows enters leaves
rows_moved-from_each net rows now enters leaves long each =
    let moved : List Row = rows_moved net rows enters leaves in
    ext_get_or empty_row now moved (omega (arith, length-rows_moved net rows enters leaves)) (λ i within.
    let has : i < length net.cells = omega arith in
    each i has ∙ sym (row_at-rows_moved net rows enters leaves i has))

-- the same moves make the same rows
pub rows_moved-same : (net : Network) (rows : List Row) (enters leaves enters' leaves' : ℕ → ℕ) →
    ((i : ℕ) → enters i ≡ enters' i) → ((i : ℕ) → leaves i ≡ leaves' i) →
    rows_moved net rows enters leaves ≡ rows_moved net rows enters' leaves'
rows_moved-same net rows enters leaves enters' leaves' same_enters same_leaves =
    rows_moved-from_each net rows (rows_moved net rows enters leaves) enters' leaves' (length-rows_moved net rows enters leaves) (λ i has.
    row_at-rows_moved net rows enters leaves i has ∙
    ap (λ parts. moved_row net i (row_at rows i) parts (leaves i)) (same_enters i) ∙
    ap (λ parts. moved_row net i (row_at rows i) (enters' i) parts) (same_leaves i))

-- so much leaves the cell
pub rows_moved-less : (net : Network) (t : ℕ) (rows : List Row) (enters leaves : ℕ → ℕ) (cell parts : ℕ) → IsNetwork net →
    t < net.steps → cell < length net.cells → AreInBounds net t rows →
    IsChange net t cell (occupancy rows cell) (enters cell) (leaves cell + parts) →
    let now = rows_moved net rows enters leaves in
    CanLeave now cell parts ×
    (set now cell (row_less (row_at now cell) parts) ≡ rows_moved net rows enters (λ i. leaves i + (if i == cell then parts else 0)))
rows_moved-less net t rows enters leaves cell parts sound before has bounds change =
    let now : List Row = rows_moved net rows enters leaves in
    let here = row_at-rows_moved net rows enters leaves cell has in
    let out = moves_out net t cell (row_at rows cell) (enters cell) (leaves cell) parts sound before has (bounds.each cell has) change in
    let long = length-rows_moved net rows enters leaves in
    let there : cell < length now = omega arith in (
      record { there = there; held = rw here out.held; waiting = rw here out.waiting; fits = rw here out.fits },
      rows_moved-from_each net rows (set now cell (row_less (row_at now cell) parts)) enters _ (omega (arith, length-set now cell (row_less (row_at now cell) parts)))
          (λ i has_i. elim (cases_eq i cell) [
            | inl same ↦
                let own : (i == cell) ≡ true = eq-eqb i cell same in
                rw (own, same) (get_or-set_same now cell (row_less (row_at now cell) parts) empty_row there ∙ ap (λ row. row_less row parts) here ∙ out.done)
            | inr other ↦
                let apart : (i == cell) ≡ false = ne_eqb i cell other in
                rw (apart, add-zero (leaves i)) (
                get_or-set_other now cell i (row_less (row_at now cell) parts) empty_row other ∙ row_at-rows_moved net rows enters leaves i has_i
                )
          ]),
    )

-- so much enters it
pub rows_moved-more : (net : Network) (t : ℕ) (rows : List Row) (enters leaves : ℕ → ℕ) (cell parts : ℕ) → IsNetwork net →
    t < net.steps → cell < length net.cells → AreInBounds net t rows →
    IsChange net t cell (occupancy rows cell) (enters cell + parts) (leaves cell) →
    let now = rows_moved net rows enters leaves in
    CanEnter now cell parts ×
    (set now cell (row_more (row_at now cell) parts) ≡ rows_moved net rows (λ i. enters i + (if i == cell then parts else 0)) leaves)
rows_moved-more net t rows enters leaves cell parts sound before has bounds change =
    let now : List Row = rows_moved net rows enters leaves in
    let here = row_at-rows_moved net rows enters leaves cell has in
    let into = moves_in net t cell (row_at rows cell) (enters cell) (leaves cell) parts sound before has (bounds.each cell has) change in
    let long = length-rows_moved net rows enters leaves in
    let there : cell < length now = omega arith in (
      record { there = there; fits = rw here into.fits; all_fit = rw here into.all_fit },
      rows_moved-from_each net rows (set now cell (row_more (row_at now cell) parts)) _ leaves (omega (arith, length-set now cell (row_more (row_at now cell) parts)))
          (λ i has_i. elim (cases_eq i cell) [
            | inl same ↦
                let own : (i == cell) ≡ true = eq-eqb i cell same in
                rw (own, same) (get_or-set_same now cell (row_more (row_at now cell) parts) empty_row there ∙ ap (λ row. row_more row parts) here ∙ into.done)
            | inr other ↦
                let apart : (i == cell) ≡ false = ne_eqb i cell other in
                rw (apart, add-zero (enters i)) (
                get_or-set_other now cell i (row_more (row_at now cell) parts) empty_row other ∙ row_at-rows_moved net rows enters leaves i has_i
                )
          ]),
    )
