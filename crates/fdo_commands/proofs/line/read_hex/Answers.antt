use Rattle.std.proofs.Common.{◌≡◌, inl, inr, ap, length, sym, ◌∙◌, arith, rules}
use Rattle.hex.specs.Hex.{lower_digits}
use Rattle.hex.proofs.HexLemmas.{length-encode_with}
use Rattle.fdo_commands.proofs.HexWords.{decoded, spelled}
use Rattle.fdo_commands.proofs.line.read_hex.Goals as goal

pub returns-then-is_empty : goal.returns-then-is_empty
returns-then-is_empty c = λ body all some is.
    let none : length c.args.word.now ≡ 0 = search rules in
    omega (arith, none, some, ap length is, length-encode_with lower_digits body)

pub returns-then-has_capital : goal.returns-then-has_capital
returns-then-has_capital c = λ body all some is. let small = (spelled c.args.word.now body all is).0 in let large = c.if-has_capital.ensures in cc

pub returns-in-Ok : goal.returns-in-Ok
returns-in-Ok c = rw c.new.ensures (decoded c.args.word.now c.in-Ok.bytes.items (search rules) (sym c.if-has_capital.ensures) c.in-Ok.ensures.ok)

pub returns-in-InvalidHexCharacter : goal.returns-in-InvalidHexCharacter
returns-in-InvalidHexCharacter c = λ body all some is.
    let read = (spelled c.args.word.now body all is).1 in
    elim c.in-Err.ensures.err [ inl memory ↦ (let no = c.in-InvalidHexCharacter.is in cc) | inr other ↦ (let no = sym read ∙ other in cc) ]

pub returns-in-OddLength : goal.returns-in-OddLength
returns-in-OddLength c = λ body all some is.
    let read = (spelled c.args.word.now body all is).1 in
    elim c.in-Err.ensures.err [ inl memory ↦ (let no = c.in-OddLength.is in cc) | inr other ↦ (let no = sym read ∙ other in cc) ]

pub returns-in-InvalidStringLength : goal.returns-in-InvalidStringLength
returns-in-InvalidStringLength c = λ body all some is.
    let read = (spelled c.args.word.now body all is).1 in
    elim c.in-Err.ensures.err [ inl memory ↦ (let no = c.in-InvalidStringLength.is in cc) | inr other ↦ (let no = sym read ∙ other in cc) ]
