-- What a network says of its cells and connectors, for the crates above.
use Rattle.std.specs.Prelude.{All}
use Rattle.std.proofs.Common.{ℕ, ◌≡◌, ◌==◌, ◌<◌, ◌≤◌, ◌^◌, Bool, true, false, List, [], length, get_or, slice_index_or, cond, sym, ap, ◌∙◌, arith}
use Rattle.std.proofs.lemmas.List.{get_or-map, get_or_default}
use Rattle.std.proofs.lemmas.List.Elements.{All-append, All-weaker}
use Rattle.network_file.specs.Cells.{is_exit_at, is_gate_at, name_at}
use Rattle.network_file.specs.Connectors.{cells_of, downstream_of, upstream_of}
use Rattle.network_file.specs.Numbered.{connector_at}
use Rattle.network_file.specs.Formats.{most_records}
use Rattle.network_file.specs.Network.{Network}
use Rattle.network_file.specs.Sound.{IsNetwork, IsSoundConnector}
use Rattle.network_file.specs.declared.cell.Cell.{Cell}
use Rattle.network_file.specs.declared.connector.Connector.{Connector}
use Rattle.network_file.specs.declared.connector.Connector.TheVariants.{Link}

-- a file of any format has at most as many records of a sort as one of the newest
pub few_records : (format : ℕ) → most_records format ≤ most_records 3
few_records format = by (format == 1)
  where
    by : (first : Bool) → cond first (most_records 1) (most_records 3) ≤ most_records 3
    by true = omega arith
    by false = omega arith

-- there are few enough cells and connectors for numbers of 32 bits
pub few_cells : (net : Network) → IsNetwork net → length net.cells < 2 ^ 32
few_cells net sound = omega (arith, few_records net.format, sound.sound.few_cells)

pub few_connectors : (net : Network) → IsNetwork net → length net.connectors < 2 ^ 32
few_connectors net sound = omega (arith, few_records net.format, sound.sound.few_connectors)

-- the name of a cell that was read
pub name_at-read : (cells : List Cell) (i : ℕ) (cell : Cell) → i < length cells → cell ≡ slice_index_or cells i cell → name_at cells i ≡ cell.name
name_at-read cells i cell within here = get_or-map (λ c. c.name) cells i cell [] within ∙ ap (λ c. c.name) (sym here)

-- the connector that was read from these items
pub read_connector : (items connectors : List Connector) (k : ℕ) (connector : Connector) → items ≡ connectors → k < length connectors
    → connector ≡ get_or items k connector → connector_at connectors k ≡ connector
read_connector items connectors k connector same has read =
    get_or_default connectors k (Link 0 0) connector has ∙ sym (read ∙ ap (λ cs. get_or cs k connector) same)

-- the connector of a number is sound
pub connector_at-sound : (net : Network) (k : ℕ) → IsNetwork net → k < length net.connectors → IsSoundConnector net.cells (connector_at net.connectors k)
connector_at-sound net k is_network there = is_network.sound.sound_connectors k (Link 0 0) there

-- the cells of a connector are there
pub cells_there : (cells : List Cell) (connector : Connector) → IsSoundConnector cells connector → All (λ i. i < length cells) (cells_of connector)
cells_there cells connector sound =
    All-append (λ i. i < length cells) (upstream_of connector) (downstream_of connector)
    (All-weaker (λ i. (i < length cells) × (is_exit_at cells i ≡ false)) (λ i. i < length cells) (λ i both. both.0) (upstream_of connector) sound.up)
    (All-weaker (λ i. (i < length cells) × (is_gate_at cells i ≡ false)) (λ i. i < length cells) (λ i both. both.0) (downstream_of connector) sound.down)
