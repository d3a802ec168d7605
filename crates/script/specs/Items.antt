-- What may stand within quotes, item by item. A backslash marks a quote (34), another backslash (92), n for LF, r for CR, or x and two digits of base
-- sixteen for any byte. Without it, a quote closes the text and each other byte from 0x20 to 0x7e stands for itself. All else is wrong.
use Rattle.std.specs.Prelude.{◌≡◌, ℕ, ◌+◌, ◌-◌, ◌*◌, cond, ◌&&◌, ◌||◌, List, [], ◌∷◌, Some, None, codes, Option, ◌==◌, nat_le, refl}
use Rattle.script.specs.declared.items.Item.{Item}
use Rattle.script.specs.declared.items.Item.TheVariants.{Byte, Close}

-- the value of a digit of base sixteen, in either letter case
abbrev pub hex_value : ℕ → Option ℕ
hex_value b =
    cond (nat_le 48 b && nat_le b 57) (Some (b - 48))
    (cond (nat_le 97 b && nat_le b 102) (Some (b - 97 + 10))
    (cond (nat_le 65 b && nat_le b 70) (Some (b - 65 + 10)) None))

-- the item of two digits, in which there are four bytes: the backslash, x, and the two
abbrev pub numbered : Option ℕ → Option ℕ → Option Item
numbered (Some high) (Some low) = Some (Byte (high * 16 + low) 4)
numbered (Some high) None = None
numbered None low = None

-- the item that a backslash and x begin
abbrev pub hex_item : List ℕ → Option Item
hex_item [] = None
hex_item (a ∷ []) = None
hex_item (a ∷ b ∷ s) = numbered (hex_value a) (hex_value b)

-- the item that a backslash begins
abbrev pub marked_item : List ℕ → Option Item
marked_item [] = None
marked_item (b ∷ s) =
    cond (b == 34 || b == 92) (Some (Byte b 2))
    (cond (b == 110) (Some (Byte 10 2))
    (cond (b == 114) (Some (Byte 13 2))
    (cond (b == 120) (hex_item s) None)))

-- the item at the front of what stands within quotes; none where what stands there is wrong
abbrev pub item_of : List ℕ → Option Item
item_of [] = None
item_of (b ∷ s) =
    cond (b == 34) (Some Close)
    (cond (b == 92) (marked_item s)
    (cond (nat_le 0x20 b && nat_le b 0x7e) (Some (Byte b 1)) None))

example_itself : item_of (codes "a\"") ≡ Some (Byte 97 1)
example_itself = refl

example_closes : item_of (codes "\" b") ≡ Some Close
example_closes = refl

example_marked : item_of (codes "\\\"") ≡ Some (Byte 34 2)
example_marked = refl

example_lf : item_of (codes "\\nx") ≡ Some (Byte 10 2)
example_lf = refl

example_either_case : item_of (codes "\\xeF0") ≡ Some (Byte 0xEF 4)
example_either_case = refl

example_unknown : item_of (codes "\\t") ≡ None
example_unknown = refl

example_one_digit : item_of (codes "\\x4") ≡ None
example_one_digit = refl

example_no_digit : item_of (codes "\\x4g") ≡ None
example_no_digit = refl

example_control : item_of (9 ∷ []) ≡ None
example_control = refl

example_past_ascii : item_of (127 ∷ []) ≡ None
example_past_ascii = refl
