use Rattle.std.proofs.Common.{◌≡◌, true}
use Rattle.record_fields.specs.Regions.{all_have_regions, region_numbers}
use Rattle.record_fields.proofs.region_table.RegionTable.numbers.Given as goal

abbrev pub invariant-loop-cell : goal.invariant-loop-cell
invariant-loop-cell l = record {
  there : all_have_regions l.cell l.self ≡ true;
  numbers : l.numbers.items ≡ region_numbers l.cell l.self;
}
