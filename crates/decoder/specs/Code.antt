-- What the program's values stand for.
use Rattle.std.specs.Prelude.{List, [], ◌∷◌, Some, None, Option}
use Rattle.decoder.specs.declared.character.Character.{Character}
use Rattle.decoder.specs.declared.character.Character.TheVariants.{One, Two, Three, Four}
use Rattle.decoder.specs.declared.character.Given.{Given}
use Rattle.decoder.specs.declared.character.Given.TheVariants as given
use Rattle.decoder.specs.declared.decoder.Decoder.{Decoder}
use Rattle.decoder.specs.declared.decoder.Pending.{Pending}
use Rattle.decoder.specs.declared.decoder.Pending.TheVariants.{Nothing, OneOfTwo, OneOfThree, TwoOfThree, OneOfFour, TwoOfFour, ThreeOfFour}
use Rattle.machine.specs.Run.{Step}
use Rattle.decoder.specs.Standard.{Char, replacement, following, second}
use Rattle.decoder.specs.Machine.{Reading, between, inside, State}

abbrev pub bytes_of : Character → Char
bytes_of (One bytes) = bytes
bytes_of (Two bytes) = bytes
bytes_of (Three bytes) = bytes
bytes_of (Four bytes) = bytes

abbrev pub chars_of : Given → List Char
chars_of given.Nothing = []
chars_of (given.One c) = bytes_of c ∷ []
chars_of (given.Replaced c) = replacement ∷ bytes_of c ∷ []

abbrev pub reading_of : Pending → Reading
reading_of Nothing = between
reading_of (OneOfTwo a) = inside (a ∷ []) (second a) []
reading_of (OneOfThree a) = inside (a ∷ []) (second a) (following ∷ [])
reading_of (TwoOfThree a b) = inside (a ∷ b ∷ []) following []
reading_of (OneOfFour a) = inside (a ∷ []) (second a) (following ∷ following ∷ [])
reading_of (TwoOfFour a b) = inside (a ∷ b ∷ []) following (following ∷ [])
reading_of (ThreeOfFour a b c) = inside (a ∷ b ∷ c ∷ []) following []

-- What a byte leads to where a character may begin, and anywhere.
abbrev pub begun_turn : Pending × Option Character → Step Reading Char
begun_turn t = record { state = reading_of t.0; out = elim t.1 [ None ↦ [] | Some c ↦ bytes_of c ∷ [] ] }

abbrev pub given_turn : Pending × Given → Step Reading Char
given_turn t = record { state = reading_of t.0; out = chars_of t.1 }

abbrev pub state_of : Decoder → State
state_of d = record { started = d.started; reading = reading_of d.pending }
