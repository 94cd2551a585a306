-- The lines of the flights, one connector after the other.
use Rattle.std.specs.Prelude.{cond, flat_map}
use Rattle.std.specs.List.{filter, range_with_len}
use Rattle.std.proofs.Common.{◌≡◌, ℕ, ◌+◌, Bool, true, false, List, [], ◌∷◌, ◌++◌, length, refl, ap, ◌∙◌}
use Rattle.std.proofs.lemmas.Grind.{flat_map-append}
use Rattle.std.proofs.lemmas.List.{append-nil}
use Rattle.network_file.specs.Numbered.{connector_at}
use Rattle.network_file.specs.Network.{Network}
use Rattle.flow_model.specs.declared.row.Row.{Row}
use Rattle.region_cut.proofs.Ranges.{filter_range_more}
use Rattle.shot_lines.specs.ShotText.{flight_line}
use Rattle.region_cut.specs.Joins.{crosses}
use Rattle.snapshot.specs.Shots.{crossing}

-- the lines of those of the first connectors, so many of them, that touch more than one region
unfoldable pub flights_before : Network → (cut : List ℕ) → List Row → (connectors : ℕ) → List ℕ
flights_before net cut rows connectors =
    flat_map (flight_line net rows) (filter (λ k. crosses cut (connector_at net.connectors k)) (range_with_len 0 connectors))

pub flights_before-none : (net : Network) (cut : List ℕ) (rows : List Row) → flights_before net cut rows 0 ≡ []
unfolding flights_before
flights_before-none net cut rows = refl

pub flights_before-all : (net : Network) (cut : List ℕ) (rows : List Row) → flights_before net cut rows (length net.connectors) ≡ flat_map (flight_line net rows) (crossing net cut)
unfolding flights_before
flights_before-all net cut rows = refl

-- one connector more
pub flights_before-crosses : (net : Network) (cut : List ℕ) (rows : List Row) (k : ℕ) → crosses cut (connector_at net.connectors k) ≡ true →
    flights_before net cut rows (k + 1) ≡ flights_before net cut rows k ++ flight_line net rows k
unfolding flights_before
flights_before-crosses net cut rows k passes =
    let test : ℕ → Bool = λ j. crosses cut (connector_at net.connectors j) in
    let before : List ℕ = filter test (range_with_len 0 k) in
    ap (flat_map (flight_line net rows)) (filter_range_more test k ∙ ap (λ b. before ++ cond b (k ∷ []) []) passes) ∙ flat_map-append (flight_line net rows) before (k ∷ []) ∙
    ap (λ last. flat_map (flight_line net rows) before ++ last) (append-nil (flight_line net rows k))

pub flights_before-stays : (net : Network) (cut : List ℕ) (rows : List Row) (k : ℕ) → crosses cut (connector_at net.connectors k) ≡ false →
    flights_before net cut rows (k + 1) ≡ flights_before net cut rows k
unfolding flights_before
flights_before-stays net cut rows k fails =
    let test : ℕ → Bool = λ j. crosses cut (connector_at net.connectors j) in
    let before : List ℕ = filter test (range_with_len 0 k) in
    ap (flat_map (flight_line net rows)) (filter_range_more test k ∙ ap (λ b. before ++ cond b (k ∷ []) []) fails ∙ append-nil before)
