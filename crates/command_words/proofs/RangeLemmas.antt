-- The numbers of a request that words ask for are within the ranges of their options.
use Rattle.std.specs.Prelude.{Option, bytes_eq, codes, if◌then◌else◌, nat_le, option_and_then, option_map, ◌&&◌}
use Rattle.std.specs.Option.{option_map_or}
use Rattle.std.proofs.Common.{◌≡◌, ℕ, ◌≤◌, Bool, true, false, List, Some, None, refl, subst, arith}
use Rattle.std.proofs.lemmas.Bool.{and_parts, leb-true}
use Rattle.fixed_flow.specs.Spelling.{whole_of}
use Rattle.clap.specs.Walk.{first_of, is_empty}
use Rattle.clap.specs.Words.{Row, fault_of, matches_of}
use Rattle.command_words.specs.KnownWords.{command}
use Rattle.command_words.specs.Values.{AreRegions, cut_named, number_within, regions_named}
use Rattle.command_words.specs.Words.{IsInRange, request_in, request_of, value_of}
use Rattle.command_words.specs.Modes.{mode_named, takes_option}
use Rattle.command_words.specs.Settings.{word_of}
use Rattle.command_words.specs.declared.cut_kind.CutKind.TheVariants.{Even}
use Rattle.command_words.specs.declared.mode.Mode.{Mode}
use Rattle.command_words.specs.declared.region_choice.RegionChoice.{RegionChoice}
use Rattle.command_words.specs.declared.region_choice.RegionChoice.TheVariants.{Auto, Count}
use Rattle.command_words.specs.declared.request.Request.{Request}
use Rattle.command_words.specs.declared.setting.Setting.{Setting}
use Rattle.command_words.specs.declared.setting.Setting.TheVariants.{Regions, Cutting, Parts, Workers, Every, Shots, Until, Size, Seed}

-- what was found is what is there
same-some : {A : Type 0} (a b : A) → Some a ≡ Some b → a ≡ b
same-some a b same = cc

none-some : {A : Type 0} {P : Type 0} (a : A) → ◌≡◌ {A = Option A} None (Some a) → P
none-some a same = absurd cc

-- a chain that gave something had something to go on with
chained : {A B : Type 0} (found : Option A) (next : A → Option B) (b : B) → option_and_then next found ≡ Some b → (a : A) × (found ≡ Some a) × (next a ≡ Some b)
chained None next b same = none-some b same
chained (Some a) next b same = (a, refl, same)

abbrev IsWithin : (least most value : ℕ) → Type 0
IsWithin least most value = (least ≤ value) × (value ≤ most)

tested-within : (least most n value : ℕ) → (if nat_le least n && nat_le n most then Some n else None) ≡ Some value → IsWithin least most value
tested-within least most n value = by (nat_le least n && nat_le n most) refl
  where
    by : (passes : Bool) → (nat_le least n && nat_le n most) ≡ passes → (if passes then Some n else None) ≡ Some value → IsWithin least most value
    by true is same =
        let both = and_parts (nat_le least n) (nat_le n most) is in
        subst (IsWithin least most) (same-some n value same) (leb-true least n both.0, leb-true n most both.1)
    by false is same = none-some value same

number-within : (least most : ℕ) (text : List ℕ) (value : ℕ) → number_within least most text ≡ Some value → IsWithin least most value
unfolding number_within
number-within least most text value found = let whole = chained (whole_of text) _ value found in tested-within least most whole.0 value whole.2

regions-within : (text : List ℕ) (choice : RegionChoice) → regions_named text ≡ Some choice → AreRegions choice
unfolding regions_named
regions-within text choice = by (bytes_eq text (codes "auto"))
  where
    counted : (found : Option ℕ) → number_within 1 512 text ≡ found → option_map Count found ≡ Some choice → AreRegions choice
    counted None is same = none-some choice same
    counted (Some regions) is same = subst AreRegions (same-some (Count regions) choice same) (number-within 1 512 text regions is)

    by : (auto : Bool) → (if auto then Some Auto else option_map Count (number_within 1 512 text)) ≡ Some choice → AreRegions choice
    by true same = subst AreRegions (same-some Auto choice same) tt
    by false same = counted (number_within 1 512 text) refl same

-- what holds of each value that a text can stand for, and of the default, holds of an option's value
option-holds : {A : Type 0} (P : A → Type 0) (mode : Mode) (option : Setting) (named : List ℕ → Option A) (default value : A) (found : List Row) →
    ((text : List ℕ) (value : A) → named text ≡ Some value → P value) → P default → value_of mode option named default found ≡ Some value → P value
option-holds P mode option named default value found each first = by_text (first_of (word_of option) found)
  where
    by_takes : (text : List ℕ) (takes : Bool) → (if takes then named text else None) ≡ Some value → P value
    by_takes text true same = each text value same
    by_takes text false same = none-some value same

    by_text : (given : Option (List ℕ)) → option_map_or (λ text. if takes_option mode option then named text else None) given (Some default) ≡ Some value → P value
    by_text None same = subst P (same-some default value same) first
    by_text (Some text) same = by_takes text (takes_option mode option) same

number-holds : (mode : Mode) (option : Setting) (least most default value : ℕ) (found : List Row) → IsWithin least most default →
    value_of mode option (number_within least most) default found ≡ Some value → IsWithin least most value
number-holds mode option least most default value found first =
    option-holds (IsWithin least most) mode option (number_within least most) default value found (number-within least most) first

-- the defaults
one-region : IsWithin 1 512 1
one-region = (omega arith, omega arith)

four-of_64 : IsWithin 1 64 4
four-of_64 = (omega arith, omega arith)

one-worker : IsWithin 1 16 1
one-worker = (omega arith, omega arith)

no-step : IsWithin 0 100_000 0
no-step = (omega arith, omega arith)

first-size : IsWithin 1 10_000 100
first-size = (omega arith, omega arith)

first-seed : IsWithin 0 999_999_999 1
first-seed = (omega arith, omega arith)

found-in_range : (found : List Row) (request : Request) → request_in found ≡ Some request → IsInRange request
unfolding request_in
found-in_range found request same =
    let word = chained (first_of (codes "mode") found) _ request same in
    let mode = chained (mode_named word.0) _ request word.2 in
    let regions = chained (value_of mode.0 Regions regions_named (Count 1) found) _ request mode.2 in
    let cut = chained (value_of mode.0 Cutting cut_named Even found) _ request regions.2 in
    let parts = chained (value_of mode.0 Parts (number_within 1 64) 4 found) _ request cut.2 in
    let workers = chained (value_of mode.0 Workers (number_within 1 16) 1 found) _ request parts.2 in
    let every = chained (value_of mode.0 Every (number_within 0 100_000) 0 found) _ request workers.2 in
    let shots = chained (value_of mode.0 Shots (number_within 1 64) 4 found) _ request every.2 in
    let until = chained (value_of mode.0 Until (number_within 0 100_000) 0 found) _ request shots.2 in
    let size = chained (value_of mode.0 Size (number_within 1 10_000) 100 found) _ request until.2 in
    let seed = chained (value_of mode.0 Seed (number_within 0 999_999_999) 1 found) _ request size.2 in
    subst IsInRange (same-some _ request seed.2) (record {
      regions = option-holds AreRegions mode.0 Regions regions_named (Count 1) regions.0 found regions-within one-region regions.1;
      parts = number-holds mode.0 Parts 1 64 4 parts.0 found four-of_64 parts.1;
      workers = number-holds mode.0 Workers 1 16 1 workers.0 found one-worker workers.1;
      every = (number-holds mode.0 Every 0 100_000 0 every.0 found no-step every.1).1;
      shots = number-holds mode.0 Shots 1 64 4 shots.0 found four-of_64 shots.1;
      until = (number-holds mode.0 Until 0 100_000 0 until.0 found no-step until.1).1;
      size = number-holds mode.0 Size 1 10_000 100 size.0 found first-size size.1;
      seed = (number-holds mode.0 Seed 0 999_999_999 1 seed.0 found first-seed seed.1).1;
    })

pub request_of-in_range : (words : List (List ℕ)) (request : Request) → request_of words ≡ Some request → IsInRange request
unfolding request_of
request_of-in_range words request = by (is_empty (fault_of command words))
  where
    by : (faultless : Bool) → (if faultless then request_in (matches_of command words) else None) ≡ Some request → IsInRange request
    by true same = found-in_range (matches_of command words) request same
    by false same = none-some request same
