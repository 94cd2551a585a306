-- A network as contracts see it: each vector is the list of its items.
use Rattle.network_file.specs.Network.{Network}
use Rattle.network_file.specs.declared.net.Net.TheInside.{Inside}

abbrev pub network_in : Inside → Network
network_in net = record {
  format = net.format;
  steps = net.steps;
  cells = net.cells.items;
  connectors = net.connectors.items;
  plan = net.plan;
  regions = net.regions.items;
}
