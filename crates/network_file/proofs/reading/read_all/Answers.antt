use Rattle.std.proofs.Common.{rules, ◌≡◌, ◌∙◌, ◌∷◌, arith, length, sym, ap}
use Rattle.record_fields.specs.FileRecords.{file_records_of}
use Rattle.record_fields.specs.FileReading.{records_left}
use Rattle.network_file.specs.Reading.{read_records}
use Rattle.record_fields.proofs.RecordLemmas.{length-file_records_of}
use Rattle.network_file.proofs.ReadingLemmas.{network_of-headless, network_of-misheaded, network_of-headed}
use Rattle.network_file.proofs.reading.read_all.Goals as goal

pub returns-then-not-branch-clause-refusal : goal.returns-then-not-branch-clause-refusal
returns-then-not-branch-clause-refusal c =
    let left = sym c.requires.left in
    (network_of-headless c.args.bytes.now (left ∙ c.in_ok-next_record.ensures.end c.if-not-branch.true))

pub returns-in_default-clause-refusal : goal.returns-in_default-clause-refusal
returns-in_default-clause-refusal c =
    let rest = records_left c.next_record.new.reader in
    let all : file_records_of c.args.bytes.now ≡ c.next_record.new.row ∷ rest =
    sym c.requires.left ∙ c.in_ok-next_record.ensures.found c.if-not-branch.false in
    (network_of-misheaded c.args.bytes.now c.next_record.new.row rest all (search rules))

pub read_later-requires-clause-reading : goal.read_later-requires-clause-reading
read_later-requires-clause-reading c = c.in_ok-next_record.ensures.reading c.if-not-branch.false

pub read_later-requires-clause-few : goal.read_later-requires-clause-few
read_later-requires-clause-few c =
    let rest = records_left c.next_record.new.reader in
    let all : file_records_of c.args.bytes.now ≡ c.next_record.new.row ∷ rest =
    sym c.requires.left ∙ c.in_ok-next_record.ensures.found c.if-not-branch.false in
    omega (arith, length-file_records_of c.args.bytes.now, ap length all, c.requires.few)

pub returns-clause-network : goal.returns-clause-network
returns-clause-network c =
    let rest = records_left c.next_record.new.reader in
    let all : file_records_of c.args.bytes.now ≡ c.next_record.new.row ∷ rest =
    sym c.requires.left ∙ c.in_ok-next_record.ensures.found c.if-not-branch.false in
    let headed = network_of-headed c.args.bytes.now c.next_record.new.row rest c.in-Some.format all (sym c.format_of.ensures.value ∙ c.in-Some.is)
    ∙ ap (λ draft. read_records 2 draft rest) (sym c.in_ok-draft.ensures) in
    rw headed c.read_later.ensures.network

pub returns-clause-refusal : goal.returns-clause-refusal
returns-clause-refusal c =
    let rest = records_left c.next_record.new.reader in
    let all : file_records_of c.args.bytes.now ≡ c.next_record.new.row ∷ rest =
    sym c.requires.left ∙ c.in_ok-next_record.ensures.found c.if-not-branch.false in
    let headed = network_of-headed c.args.bytes.now c.next_record.new.row rest c.in-Some.format all (sym c.format_of.ensures.value ∙ c.in-Some.is)
    ∙ ap (λ draft. read_records 2 draft rest) (sym c.in_ok-draft.ensures) in
    rw headed c.read_later.ensures.refusal
