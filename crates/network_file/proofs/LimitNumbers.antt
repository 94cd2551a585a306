-- The code's constants are the numbers of the definitions.
use Rattle.std.proofs.Common.{◌≡◌, refl}
use Rattle.step_plan.specs.declared.bounds.TheConstants.{MOST_RECORDS}
use Rattle.network_file.specs.Formats.{most_records}
use Rattle.network_file.specs.Limits.{most_bytes, most_capacity, most_regions, most_room}
use Rattle.network_file.specs.declared.limits.TheConstants.{MOST_BYTES, MOST_CAPACITY, MOST_RECORDS_OF_FORMAT_1, MOST_REGIONS, MOST_ROOM}

pub MOST_BYTES-is : MOST_BYTES ≡ most_bytes
MOST_BYTES-is = refl

pub MOST_REGIONS-is : MOST_REGIONS ≡ most_regions
MOST_REGIONS-is = refl

pub MOST_ROOM-is : MOST_ROOM ≡ most_room
MOST_ROOM-is = refl

pub MOST_CAPACITY-is : MOST_CAPACITY ≡ most_capacity
MOST_CAPACITY-is = refl

pub MOST_RECORDS_OF_FORMAT_1-is : MOST_RECORDS_OF_FORMAT_1 ≡ most_records 1
MOST_RECORDS_OF_FORMAT_1-is = refl

pub MOST_RECORDS-is : MOST_RECORDS ≡ most_records 3
MOST_RECORDS-is = refl
