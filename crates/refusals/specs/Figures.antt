-- Rules: Limits and refusals. The figures of a refusal (number, offset, place), and of an answer.
use Rattle.std.specs.Prelude.{ℕ, Result, Ok, Err}
use Rattle.refusals.specs.declared.Refusal.{Refusal}
use Rattle.refusals.specs.declared.Refusal.TheVariants.{TooLong, NoWorkSpace, NoRoom, NotAscii, OpenComment, OpenInstruction, OpenDeclaration, NoCloseTagEnd, NoTagName, OpenTag, NoAttributeName, NoEquals, NoQuote, OpenValue, WrongClose, OpenElements, BadNumber, MisplacedField, TooDeep, TooManyItems, ArrayInComposite, ArrayInMessage}

-- the number of each refusal
abbrev pub number_of : Refusal → ℕ
number_of TooLong = 1
number_of NoWorkSpace = 2
number_of NoRoom = 3
number_of (NotAscii at) = 10
number_of (OpenComment at) = 11
number_of (OpenInstruction at) = 12
number_of (OpenDeclaration at) = 13
number_of (NoCloseTagEnd offset place) = 14
number_of (NoTagName offset place) = 15
number_of (OpenTag offset place) = 16
number_of (NoAttributeName offset place) = 17
number_of (NoEquals offset place) = 18
number_of (NoQuote offset place) = 19
number_of (OpenValue offset place) = 20
number_of (WrongClose place) = 30
number_of (OpenElements place) = 31
number_of (BadNumber place) = 32
number_of (MisplacedField place) = 33
number_of (TooDeep place) = 34
number_of (TooManyItems place) = 35
number_of (ArrayInComposite place) = 40
number_of (ArrayInMessage place) = 41

-- the scope's offset: where something was due, or where the byte, markup or value at fault begins,
-- and else 0
abbrev pub offset_of : Refusal → ℕ
offset_of TooLong = 0
offset_of NoWorkSpace = 0
offset_of NoRoom = 0
offset_of (NotAscii at) = at
offset_of (OpenComment at) = at
offset_of (OpenInstruction at) = at
offset_of (OpenDeclaration at) = at
offset_of (NoCloseTagEnd offset place) = offset
offset_of (NoTagName offset place) = offset
offset_of (OpenTag offset place) = offset
offset_of (NoAttributeName offset place) = offset
offset_of (NoEquals offset place) = offset
offset_of (NoQuote offset place) = offset
offset_of (OpenValue offset place) = offset
offset_of (WrongClose place) = 0
offset_of (OpenElements place) = 0
offset_of (BadNumber place) = 0
offset_of (MisplacedField place) = 0
offset_of (TooDeep place) = 0
offset_of (TooManyItems place) = 0
offset_of (ArrayInComposite place) = 0
offset_of (ArrayInMessage place) = 0

-- the scope's place: what the refusal points at, 0 for 1, 2 and 3
abbrev pub place_of : Refusal → ℕ
place_of TooLong = 0
place_of NoWorkSpace = 0
place_of NoRoom = 0
place_of (NotAscii at) = at
place_of (OpenComment at) = at
place_of (OpenInstruction at) = at
place_of (OpenDeclaration at) = at
place_of (NoCloseTagEnd offset place) = place
place_of (NoTagName offset place) = place
place_of (OpenTag offset place) = place
place_of (NoAttributeName offset place) = place
place_of (NoEquals offset place) = place
place_of (NoQuote offset place) = place
place_of (OpenValue offset place) = place
place_of (WrongClose place) = place
place_of (OpenElements place) = place
place_of (BadNumber place) = place
place_of (MisplacedField place) = place
place_of (TooDeep place) = place
place_of (TooManyItems place) = place
place_of (ArrayInComposite place) = place
place_of (ArrayInMessage place) = place

-- the scope's answer: n, the length of the finished text, or one refusal
abbrev pub Answer : Type 0
Answer = Result ℕ Refusal

-- an answer's number: 0 after an acceptance
abbrev pub number_in : Answer → ℕ
number_in (Ok n) = 0
number_in (Err r) = number_of r

-- an answer's offset: 0 after an acceptance
abbrev pub offset_in : Answer → ℕ
offset_in (Ok n) = 0
offset_in (Err r) = offset_of r

-- an answer's place: 0 after an acceptance
abbrev pub place_in : Answer → ℕ
place_in (Ok n) = 0
place_in (Err r) = place_of r

-- an answer's n, the length of the finished text: 0 after a refusal
abbrev pub written_in : Answer → ℕ
written_in (Ok n) = n
written_in (Err r) = 0
