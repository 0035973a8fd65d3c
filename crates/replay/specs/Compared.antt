-- The answers of the report function beside the stored ones.
use Rattle.std.specs.Prelude.{Bool, not, ◌&&◌, List, [], ◌∷◌, ◌++◌, ℕ, ◌+◌, ◌-◌, eqb, length}
use Rattle.laws.specs.Decoded.{Decoded, ok, no}
use Rattle.text.specs.Bytes.{same}
use Rattle.text.specs.Truth.{one}
use Rattle.report.specs.Answer.{Answer, zeros}
use Rattle.module_info.specs.Information.{answer_of}
use Rattle.replay.specs.Stored.{Row}
use Rattle.replay.specs.declared.Ran.{Ran}
use Rattle.replay.specs.declared.Counts.{Counts}
use Rattle.std.specs.Prelude.{Option, Some, None}

-- a report in a buffer of so many bytes: every byte behind it is zero
abbrev pub padded : ℕ → List ℕ → List ℕ
padded size report = report ++ zeros (size - length report)

-- the stored answer, in a buffer of so many bytes
abbrev pub stored_answer : ℕ → ℕ → List ℕ → Answer
stored_answer size number report = record { number = number; written = length report; buffer = padded size report }

-- the same number, length and bytes: true just of equal answers (law `same_answer_iff`)
abbrev pub same_answer : Answer → Answer → Bool
same_answer a b = eqb a.number b.number && (eqb a.written b.written && same a.buffer b.buffer)

-- what is told of a row: of the answer to its sheet, whether it accepts, and whether it is the stored one
abbrev pub ran_of : ℕ → Row → Ran
ran_of size r = record {
  accepted = eqb (answer_of r.sheet size).number 0;
  same = same_answer (answer_of r.sheet size) (stored_answer size r.number r.report);
}

-- the counts with a row more
abbrev pub counted : Counts → Ran → Counts
counted k r = record {
  accepted = k.accepted + one r.accepted;
  refused = k.refused + one (not r.accepted);
  differ = k.differ + one (not r.same);
}

-- the counts with all rows of a list
abbrev pub counted_all : ℕ → Counts → List Row → Counts
counted_all size k [] = k
counted_all size k (r ∷ l) = counted_all size (counted k (ran_of size r)) l

abbrev pub none_yet : Counts
none_yet = record { accepted = 0; refused = 0; differ = 0 }

-- the counts of a list that has rows
abbrev pub tally_of : ℕ → Decoded (List Row) → Option Counts
tally_of size (ok l s) = Some (counted_all size none_yet l)
tally_of size (no r) = None
