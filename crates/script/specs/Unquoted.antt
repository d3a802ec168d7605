-- Quoted text, read: what it stands for, and what is behind it.
use Rattle.std.specs.Prelude.{◌≡◌, ℕ, zero, suc, ◌-◌, cond, List, [], ◌∷◌, ◌++◌, Some, None, codes, Option, ◌==◌, refl}
use Rattle.std.specs.Option.{option_map}
use Rattle.script.specs.declared.items.Item.TheVariants.{Byte, Close}
use Rattle.script.specs.Items.{item_of}

pub record Reading : Type 0 where
  pub bytes : List ℕ
  pub rest : List ℕ

-- with these bytes read before
abbrev pub after : List ℕ → Reading → Reading
after before r = record { bytes = before ++ r.bytes; rest = r.rest }

-- What stands within quotes, up to the closing one, where `skip` bytes belong to the item before.
abbrev pub within : ℕ → List ℕ → Option Reading
within skip [] = None
within (suc skip) (b ∷ s) = within skip s
within zero (b ∷ s) =
    elim (item_of (b ∷ s)) [
      | Some (Byte x length) ↦ option_map (after (x ∷ [])) (within (length - 1) s)
      | Some Close ↦ Some (record { bytes = []; rest = s })
      | None ↦ None
    ]

-- A text between quotes at the front of s, if one stands there.
abbrev pub unquoted : List ℕ → Option Reading
unquoted [] = None
unquoted (b ∷ s) = cond (b == 34) (within 0 s) None

example : unquoted (codes "\"0 17\" \"more\"") ≡ Some (record { bytes = codes "0 17"; rest = codes " \"more\"" })
example = refl

example_every_mark : unquoted (codes "\"\\\"\\\\\\n\\r\\x00\\xfF\"") ≡ Some (record { bytes = 34 ∷ 92 ∷ 10 ∷ 13 ∷ 0 ∷ 255 ∷ []; rest = [] })
example_every_mark = refl

example_empty : unquoted (codes "\"\"\"") ≡ Some (record { bytes = []; rest = codes "\"" })
example_empty = refl

example_not_closed : unquoted (codes "\"a\\\"") ≡ None
example_not_closed = refl

example_unknown_mark : unquoted (codes "\"\\0\"") ≡ None
example_unknown_mark = refl

example_no_quote : unquoted (codes "a\"") ≡ None
example_no_quote = refl
