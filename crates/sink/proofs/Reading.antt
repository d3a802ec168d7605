-- What the parts of an event, once read, make of it.
use Rattle.std.proofs.Common.{◌≡◌, ℕ, ◌+◌, ◌-◌, Bool, eqb, List, [], length, take, drop, Some, None, Option, sym, refl, ap, ◌∙◌, ap₂, arith}
use Rattle.std.proofs.lemmas.List.{take_rest, drop_all}
use Rattle.std.specs.List.{position}
use Rattle.machine.proofs.Positions.{found_at, found_nowhere}
use Rattle.std.specs.Option.{option_map}
use Rattle.sink.specs.Numeral.{numeral}
use Rattle.sink.specs.Chain.{to_space, insert_of, insertion}
use Rattle.sink.specs.Capped.{cap64, capped}
use Rattle.sink.specs.declared.edit.Edit.{Edit}
use Rattle.sink.specs.declared.edit.Edit.TheVariants.{Insert}

-- an insert as the pair of its numbers, read
abbrev pub paired : Option ℕ → Option ℕ → Option Edit
paired (Some place) (Some code) = Some (Insert place code)
paired (Some place) None = None
paired None code = None

capped_pair : (place code : Option ℕ) → paired (option_map cap64 place) (option_map cap64 code) ≡ capped (insert_of place code)
capped_pair (Some place) (Some code) = refl
capped_pair (Some place) None = refl
capped_pair None code = refl

abbrev pub space : ℕ → Bool
space b = eqb b 32

module _ (s : List ℕ) where
  pub reads_the_pair : (at : ℕ) → Some at ≡ position space s → (place code : Option ℕ) → place ≡ option_map cap64 (numeral (take at s)) → code ≡ option_map cap64 (numeral (take (length s - (at + 1)) (drop (at + 1) s))) → paired place code ≡ capped (insertion s)
  reads_the_pair at found place code p q =
      let same = (found_at space s at found).0 in
      ap₂ paired (p ∙ ap (λ (k : ℕ). option_map cap64 (numeral (take k s))) same)
      (q ∙ ap (λ (x : List ℕ). option_map cap64 (numeral x)) (take_rest s (at + 1)) ∙ ap (λ (k : ℕ). option_map cap64 (numeral (drop (k + 1) s))) same)
      ∙ capped_pair (numeral (take (to_space s) s)) (numeral (drop (to_space s + 1) s))

  pub no_pair_without_a_space : None ≡ position space s → None ≡ capped (insertion s)
  no_pair_without_a_space found =
      let h = found_nowhere space s found in
      let e : drop (to_space s + 1) s ≡ [] = drop_all (to_space s + 1) s (omega arith) in
      no_code (numeral (take (to_space s) s)) ∙ ap (λ (x : List ℕ). capped (insert_of (numeral (take (to_space s) s)) (numeral x))) (sym e)
    where
      no_code : (place : Option ℕ) → None ≡ capped (insert_of place None)
      no_code (Some place) = refl
      no_code None = refl
