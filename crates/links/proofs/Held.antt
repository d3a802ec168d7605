-- What the proofs draw on: what is left of a letter, and how much.
use Rattle.std.proofs.lemmas.List.{drop_all, drop-drop, length-drop, length-take, nil_from_length}

pub ruleset link_laws = (drop_all, drop-drop, length-drop, length-take, nil_from_length)
