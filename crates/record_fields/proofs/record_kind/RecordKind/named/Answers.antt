use Rattle.std.proofs.Common.{◌≡◌, true, refl, rules, arith}
use Rattle.std.specs.Prelude.{codes, nat_le}
use Rattle.std.proofs.lemmas.Bool.{le-leb}
use Rattle.std.proofs.lemmas.Slice.Eq.{text_from_reads}
use Rattle.record_fields.specs.RecordKinds.{record_kind_of}
use Rattle.record_fields.proofs.record_kind.RecordKind.named.Goals as goal

pub returns-in-demand : goal.returns-in-demand
unfolding record_kind_of
returns-in-demand c =
    let same : c.args.text.now ≡ codes "demand" = text_from_reads c.args.text.now (codes "demand") (omega arith) (search rules) in
    rw same refl

pub returns-in-signal : goal.returns-in-signal
unfolding record_kind_of
returns-in-signal c =
    let same : c.args.text.now ≡ codes "signal" = text_from_reads c.args.text.now (codes "signal") (omega arith) (search rules) in
    rw same refl

pub returns-in-diverge : goal.returns-in-diverge
unfolding record_kind_of
returns-in-diverge c =
    let same : c.args.text.now ≡ codes "diverge" = text_from_reads c.args.text.now (codes "diverge") (omega arith) (search rules) in
    rw same refl

pub returns-in-region : goal.returns-in-region
unfolding record_kind_of
returns-in-region c =
    let same : c.args.text.now ≡ codes "region" = text_from_reads c.args.text.now (codes "region") (omega arith) (search rules) in
    let late : nat_le 2 c.args.format ≡ true = le-leb 2 c.args.format (omega (arith, c.if-format-ge2-2.true)) in
    rw (same, late) refl

pub returns-in-steps : goal.returns-in-steps
unfolding record_kind_of
returns-in-steps c =
    let same : c.args.text.now ≡ codes "steps" = text_from_reads c.args.text.now (codes "steps") (omega arith) (search rules) in
    rw same refl

pub returns-in-road : goal.returns-in-road
unfolding record_kind_of
returns-in-road c =
    let same : c.args.text.now ≡ codes "road" = text_from_reads c.args.text.now (codes "road") (omega arith) (search rules) in
    rw same refl

pub returns-in-gate : goal.returns-in-gate
unfolding record_kind_of
returns-in-gate c =
    let same : c.args.text.now ≡ codes "gate" = text_from_reads c.args.text.now (codes "gate") (omega arith) (search rules) in
    rw same refl

pub returns-in-exit : goal.returns-in-exit
unfolding record_kind_of
returns-in-exit c =
    let same : c.args.text.now ≡ codes "exit" = text_from_reads c.args.text.now (codes "exit") (omega arith) (search rules) in
    rw same refl

pub returns-in-link : goal.returns-in-link
unfolding record_kind_of
returns-in-link c =
    let same : c.args.text.now ≡ codes "link" = text_from_reads c.args.text.now (codes "link") (omega arith) (search rules) in
    rw same refl

pub returns-in-merge : goal.returns-in-merge
unfolding record_kind_of
returns-in-merge c =
    let same : c.args.text.now ≡ codes "merge" = text_from_reads c.args.text.now (codes "merge") (omega arith) (search rules) in
    rw same refl

pub returns-in-limit : goal.returns-in-limit
unfolding record_kind_of
returns-in-limit c =
    let same : c.args.text.now ≡ codes "limit" = text_from_reads c.args.text.now (codes "limit") (omega arith) (search rules) in
    rw same refl

pub returns-in-turn : goal.returns-in-turn
unfolding record_kind_of
returns-in-turn c =
    let same : c.args.text.now ≡ codes "turn" = text_from_reads c.args.text.now (codes "turn") (omega arith) (search rules) in
    let late : nat_le 2 c.args.format ≡ true = le-leb 2 c.args.format (omega (arith, c.if-format-ge2.true)) in
    rw (same, late) refl

pub returns-in-speed : goal.returns-in-speed
unfolding record_kind_of
returns-in-speed c =
    let same : c.args.text.now ≡ codes "speed" = text_from_reads c.args.text.now (codes "speed") (omega arith) (search rules) in
    let late : nat_le 3 c.args.format ≡ true = le-leb 3 c.args.format (omega (arith, c.if-format-ge3.true)) in
    rw (same, late) refl
