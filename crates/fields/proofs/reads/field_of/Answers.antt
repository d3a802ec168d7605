use Rattle.std.proofs.Common.{◌≡◌, ◌≤◌, length, get_or, codes, refl, rules}
use Rattle.std.proofs.lemmas.List.{get_or_past}
use Rattle.fields.proofs.Names.{At, Named, named, data_word, event_word, id_word, retry_word, with_space, without_space, name_alone, no_word, nonempty}
use Rattle.fields.proofs.reads.field_of.Goals as goal

pub returns-in-100 : goal.returns-in-100
returns-in-100 c =
    let s = c.args.line.now in
    let h : 6 ≤ length s = search rules in
    let a : At (codes "data: ") s 0 = search rules in
    with_space data_word s 6 refl h a

pub returns-in-100-2 : goal.returns-in-100-2
returns-in-100-2 c =
    let s = c.args.line.now in
    let h : 5 ≤ length s = search rules in
    let a : At (codes "data:") s 0 = search rules in
    let n : get_or s 5 0 ≡ 32 → ⊥ = search (rules, get_or_past) in
    without_space data_word s 5 refl h a n

pub returns-in-100-3 : goal.returns-in-100-3
returns-in-100-3 c =
    let s = c.args.line.now in
    let h : length s ≡ 4 = search rules in
    let a : At (codes "data") s 0 = search rules in
    name_alone data_word s h a

pub returns-in-101 : goal.returns-in-101
returns-in-101 c =
    let s = c.args.line.now in
    let h : 7 ≤ length s = search rules in
    let a : At (codes "event: ") s 0 = search rules in
    with_space event_word s 7 refl h a

pub returns-in-101-2 : goal.returns-in-101-2
returns-in-101-2 c =
    let s = c.args.line.now in
    let h : 6 ≤ length s = search rules in
    let a : At (codes "event:") s 0 = search rules in
    let n : get_or s 6 0 ≡ 32 → ⊥ = search (rules, get_or_past) in
    without_space event_word s 6 refl h a n

pub returns-in-101-3 : goal.returns-in-101-3
returns-in-101-3 c =
    let s = c.args.line.now in
    let h : length s ≡ 5 = search rules in
    let a : At (codes "event") s 0 = search rules in
    name_alone event_word s h a

pub returns-in-105 : goal.returns-in-105
returns-in-105 c =
    let s = c.args.line.now in
    let h : 4 ≤ length s = search rules in
    let a : At (codes "id: ") s 0 = search rules in
    with_space id_word s 4 refl h a

pub returns-in-105-2 : goal.returns-in-105-2
returns-in-105-2 c =
    let s = c.args.line.now in
    let h : 3 ≤ length s = search rules in
    let a : At (codes "id:") s 0 = search rules in
    let n : get_or s 3 0 ≡ 32 → ⊥ = search (rules, get_or_past) in
    without_space id_word s 3 refl h a n

pub returns-in-105-3 : goal.returns-in-105-3
returns-in-105-3 c =
    let s = c.args.line.now in
    let h : length s ≡ 2 = search rules in
    let a : At (codes "id") s 0 = search rules in
    name_alone id_word s h a

pub returns-in-114 : goal.returns-in-114
returns-in-114 c =
    let s = c.args.line.now in
    let h : 7 ≤ length s = search rules in
    let a : At (codes "retry: ") s 0 = search rules in
    with_space retry_word s 7 refl h a

pub returns-in-114-2 : goal.returns-in-114-2
returns-in-114-2 c =
    let s = c.args.line.now in
    let h : 6 ≤ length s = search rules in
    let a : At (codes "retry:") s 0 = search rules in
    let n : get_or s 6 0 ≡ 32 → ⊥ = search (rules, get_or_past) in
    without_space retry_word s 6 refl h a n

pub returns-in-114-3 : goal.returns-in-114-3
returns-in-114-3 c =
    let s = c.args.line.now in
    let h : length s ≡ 5 = search rules in
    let a : At (codes "retry") s 0 = search rules in
    name_alone retry_word s h a

pub returns-in_default : goal.returns-in_default
returns-in_default c =
    let s = c.args.line.now in
    no_word s
    (λ e. let h = nonempty s e in search rules)
    (λ e. let n : Named (codes "data") s = named s (codes "data") e in search rules)
    (λ e. let n : Named (codes "event") s = named s (codes "event") e in search rules)
    (λ e. let n : Named (codes "id") s = named s (codes "id") e in search rules)
    (λ e. let n : Named (codes "retry") s = named s (codes "retry") e in search rules)
