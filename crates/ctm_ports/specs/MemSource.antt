-- What a source in memory answers.
use Rattle.std.specs.Prelude.{ℕ, List, if◌then◌else◌, length, drop, min}
use Rattle.ctm_ports.specs.Calls.{Calls, next_fails, after_call}
use Rattle.ctm_ports.specs.Piece.{piece_of, bytes_given}
use Rattle.ctm_ports.specs.declared.source.Piece.{Piece}
use Rattle.ctm_ports.specs.declared.source.Piece.TheVariants.{Failed}

-- the bytes still to come, the most bytes of one read, and the reads so far
pub record Supply : Type 0 where
  pub left : List ℕ
  pub chunk : ℕ
  pub calls : Calls

-- the answer to a read into this much room
abbrev pub read_answer : Supply → ℕ → Piece
read_answer supply room =
    if next_fails supply.calls then Failed else piece_of (min (min room supply.chunk) (length supply.left))

-- the supply after that answer
abbrev pub after_read : Supply → Piece → Supply
after_read supply answer = record {
  left = drop (bytes_given answer) supply.left;
  chunk = supply.chunk;
  calls = after_call supply.calls;
}
