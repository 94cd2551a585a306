use Rattle.std.proofs.Common.{◌≡◌, ◌≤◌, ◌+◌, ◌∷◌, ◌++◌, ◌∙◌, [], arith, length-append, length-set, refl, sym, ap}
use Rattle.std.specs.Prelude.{slice_index}
use Rattle.std.proofs.lemmas.List.{get_or_read_under}
use Rattle.network_file.specs.NameIndexing.{bucket_of}
use Rattle.network_file.proofs.NameLemmas.{apart-more, earlier-more, ends-more}
use Rattle.network_file.proofs.name_index.NameIndex.add.Goals as goal

pub returns : goal.returns
returns c =
    let cells = c.args.cells.now in
    let cell = c.args.cell.now in
    let index = c.args.self.now in
    let bucket = bucket_of index.buckets in
    let one_more = length-append cells (cell ∷ []) in
    let number : c.bucket-bucket.result ≡ bucket cell.name = c.bucket-bucket.ensures.value ∙ ap bucket c.bytes.ensures.bytes in
    let within : bucket cell.name ≤ index.buckets.last = rw number at c.bucket-bucket.ensures.within in
    let end : c.index.result.now ≡ slice_index index.ends.items (bucket cell.name) =
    get_or_read_under index.ends.items (bucket cell.name) (index.buckets.last + 1) c.index.result.now 0 (rw number at c.index.ensures) (omega arith) (sym c.requires.of.buckets) in
    let grown : c.push.new.self.items ≡ index.earlier.items ++ slice_index index.ends.items (bucket cell.name) ∷ [] = c.in_ok-push.ensures.items ∙ rw end refl in
    rw (number) (record {
      few = rw one_more (omega arith);
      apart = rw one_more (apart-more cells cell c.requires.fresh c.requires.of.apart);
      one_each = rw (grown, one_more, length-append) (omega arith);
      buckets = rw length-set (omega arith);
      ends = rw one_more (ends-more bucket cells cell index.ends.items index.buckets.last c.requires.of.buckets c.requires.of.ends);
      earlier = rw (one_more, grown) (earlier-more bucket cells cell index.earlier.items (slice_index index.ends.items (bucket cell.name)) c.requires.of.one_each
          c.requires.of.earlier (c.requires.of.ends (bucket cell.name) within));
    })
