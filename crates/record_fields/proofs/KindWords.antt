-- The word of each kind of record: a kind that is named is named by its word, and is one of each later format.
use Rattle.std.proofs.Common.{ℕ, ◌≡◌, ◌≤◌, ◌&&◌, Bool, true, false, List, Some, cond, refl, sym, ap, subst, ◌∙◌, arith}
use Rattle.std.specs.Prelude.{bytes_eq, codes, nat_le, Option}
use Rattle.std.specs.Cmp.Lexicographic.{bytes_decides}
use Rattle.std.proofs.lemmas.Bool.{and_parts, le-leb, leb-true}
use Rattle.record_fields.specs.RecordKinds.{record_kind_of}
use Rattle.record_fields.specs.declared.record_kind.RecordKind.{RecordKind}
use Rattle.record_fields.specs.declared.record_kind.RecordKind.TheVariants.{Steps, Road, Gate, Exit, Link, Merge, Diverge, Signal, Limit, Demand, Turn, Region, Speed}

abbrev pub word_of : RecordKind → List ℕ
word_of Steps = codes "steps"
word_of Road = codes "road"
word_of Gate = codes "gate"
word_of Exit = codes "exit"
word_of Link = codes "link"
word_of Merge = codes "merge"
word_of Diverge = codes "diverge"
word_of Signal = codes "signal"
word_of Limit = codes "limit"
word_of Demand = codes "demand"
word_of Turn = codes "turn"
word_of Region = codes "region"
word_of Speed = codes "speed"

-- a choice by a test that gave a kind: the test holds and it is the first kind, or what follows gave it
named_by : (text : List ℕ) (test : Bool) (first kind : RecordKind) (rest : Option RecordKind) → (test ≡ true → text ≡ word_of first)
    → (rest ≡ Some kind → text ≡ word_of kind) → cond test (Some first) rest ≡ Some kind → text ≡ word_of kind
named_by text true first kind rest here later named = here refl ∙ ap word_of (cc named)
named_by text false first kind rest here later named = later named

-- a kind is named by its word
pub record_kind_of-word : (format : ℕ) (text : List ℕ) (kind : RecordKind) → record_kind_of format text ≡ Some kind → text ≡ word_of kind
unfolding record_kind_of
record_kind_of-word format text kind =
    (named_by text (bytes_eq text (codes "steps")) Steps kind _ ((bytes_decides text (codes "steps")).0)
    (named_by text (bytes_eq text (codes "road")) Road kind _ ((bytes_decides text (codes "road")).0)
    (named_by text (bytes_eq text (codes "gate")) Gate kind _ ((bytes_decides text (codes "gate")).0)
    (named_by text (bytes_eq text (codes "exit")) Exit kind _ ((bytes_decides text (codes "exit")).0)
    (named_by text (bytes_eq text (codes "link")) Link kind _ ((bytes_decides text (codes "link")).0)
    (named_by text (bytes_eq text (codes "merge")) Merge kind _ ((bytes_decides text (codes "merge")).0)
    (named_by text (bytes_eq text (codes "diverge")) Diverge kind _ ((bytes_decides text (codes "diverge")).0)
    (named_by text (bytes_eq text (codes "signal")) Signal kind _ ((bytes_decides text (codes "signal")).0)
    (named_by text (bytes_eq text (codes "limit")) Limit kind _ ((bytes_decides text (codes "limit")).0)
    (named_by text (bytes_eq text (codes "demand")) Demand kind _ ((bytes_decides text (codes "demand")).0)
    (named_by text (bytes_eq text (codes "turn") && nat_le 2 format) Turn kind _ (λ both. (bytes_decides text (codes "turn")).0 (and_parts (bytes_eq text (codes "turn")) (nat_le 2 format) both).0)
    (named_by text (bytes_eq text (codes "region") && nat_le 2 format) Region kind _ (λ both. (bytes_decides text (codes "region")).0 (and_parts (bytes_eq text (codes "region")) (nat_le 2 format) both).0)
    (named_by text (bytes_eq text (codes "speed") && nat_le 3 format) Speed kind _ (λ both. (bytes_decides text (codes "speed")).0 (and_parts (bytes_eq text (codes "speed")) (nat_le 3 format) both).0)
    (λ named. cc named))))))))))))))

-- turns and regions are kinds from format 2 on, speeds of format 3
pub record_kind_of-Turn : (format : ℕ) (text : List ℕ) → record_kind_of format text ≡ Some Turn → 2 ≤ format
unfolding record_kind_of
record_kind_of-Turn format text named = by (nat_le 2 format) refl (subst (λ t. record_kind_of format t ≡ Some Turn) (record_kind_of-word format text Turn named) named)
  where
    by : (b : Bool) → nat_le 2 format ≡ b → record_kind_of format (codes "turn") ≡ Some Turn → 2 ≤ format
    by true e named = leb-true 2 format e
    by false e named = absurd (cc (rw e at named))

pub record_kind_of-Region : (format : ℕ) (text : List ℕ) → record_kind_of format text ≡ Some Region → 2 ≤ format
unfolding record_kind_of
record_kind_of-Region format text named = by (nat_le 2 format) refl (subst (λ t. record_kind_of format t ≡ Some Region) (record_kind_of-word format text Region named) named)
  where
    by : (b : Bool) → nat_le 2 format ≡ b → record_kind_of format (codes "region") ≡ Some Region → 2 ≤ format
    by true e named = leb-true 2 format e
    by false e named = absurd (cc (rw e at named))

pub record_kind_of-Speed : (format : ℕ) (text : List ℕ) → record_kind_of format text ≡ Some Speed → 3 ≤ format
unfolding record_kind_of
record_kind_of-Speed format text named = by (nat_le 3 format) refl (subst (λ t. record_kind_of format t ≡ Some Speed) (record_kind_of-word format text Speed named) named)
  where
    by : (b : Bool) → nat_le 3 format ≡ b → record_kind_of format (codes "speed") ≡ Some Speed → 3 ≤ format
    by true e named = leb-true 3 format e
    by false e named = absurd (cc (rw e at named))

-- a later format has each kind that a format has
pub record_kind_of-later : (format other : ℕ) (text : List ℕ) (kind : RecordKind) → format ≤ other → record_kind_of format text ≡ Some kind →
    record_kind_of other text ≡ Some kind
unfolding record_kind_of
record_kind_of-later format other text kind later named =
    subst (λ t. record_kind_of other t ≡ Some kind) (sym (record_kind_of-word format text kind named)) (by kind named)
  where
    by : (kind : RecordKind) → record_kind_of format text ≡ Some kind → record_kind_of other (word_of kind) ≡ Some kind
    by Steps named = refl
    by Road named = refl
    by Gate named = refl
    by Exit named = refl
    by Link named = refl
    by Merge named = refl
    by Diverge named = refl
    by Signal named = refl
    by Limit named = refl
    by Demand named = refl
    by Turn named = let late : nat_le 2 other ≡ true = le-leb 2 other (omega (arith, later, record_kind_of-Turn format text named)) in rw late refl
    by Region named = let late : nat_le 2 other ≡ true = le-leb 2 other (omega (arith, later, record_kind_of-Region format text named)) in rw late refl
    by Speed named = let late : nat_le 3 other ≡ true = le-leb 3 other (omega (arith, later, record_kind_of-Speed format text named)) in rw late refl
