-- The laws of line ends and of unfinished blocks.
use Rattle.std.proofs.Common.{◌≡◌, ℕ, zero, false, cond, ◌||◌, List, [], ◌∷◌, ◌++◌, sym, refl, ap, ◌∙◌, append_assoc, append-nil}
use Rattle.std.proofs.lemmas.Bool.{or_parts, false≢true}
use Rattle.decoder.specs.Standard.{Char, text}
use Rattle.lines.specs.Line.{is_lf, is_cr}
use Rattle.reading.specs.Lines.{within, ends, feeds, lines_after}
use Rattle.reading.specs.Blocks.{Line, parted_after, events_from, last_id_after}
use Rattle.reading.specs.Standard.{lines_of}
use Rattle.reading.specs.Limits.{any}
use Rattle.reading.specs.Laws.{LineEnd, lf, crlf, cr, end_chars, with_ends, has_end, blank, LineEndsMayBeExchanged, UnfinishedBlocksAreDropped, WithoutABlankLineNothingIsKept, AFirstMarkIsDropped}

-- characters that end no line join it
joins : (cs rest : List Char) (line : List ℕ) → has_end cs ≡ false → lines_after 0 line (cs ++ rest) ≡ lines_after 0 (line ++ text cs) rest
joins [] rest line e = ap (λ l. lines_after 0 l rest) (sym (append-nil line))
joins (c ∷ cs) rest line e =
    let p = or_parts (is_lf c || is_cr c) (has_end cs) e in
    let q = or_parts (is_lf c) (is_cr c) p.0 in
    ap (λ v. elim (cond v (ends 0) (cond (is_cr c) (ends (feeds (cs ++ rest))) within)) [ within ↦ lines_after zero (line ++ c) (cs ++ rest) | ends n ↦ line ∷ lines_after n [] (cs ++ rest) ]) q.0
    ∙ ap (λ v. elim (cond v (ends (feeds (cs ++ rest))) within) [ within ↦ lines_after zero (line ++ c) (cs ++ rest) | ends n ↦ line ∷ lines_after n [] (cs ++ rest) ]) q.1
    ∙ joins cs rest (line ++ c) p.1
    ∙ ap (λ l. lines_after 0 l rest) (append_assoc line c (text cs))

-- nothing that ends no line begins with LF
no_feed : (cs rest : List Char) → has_end cs ≡ false → feeds rest ≡ 0 → feeds (cs ++ rest) ≡ 0
no_feed [] rest e h = h
no_feed (c ∷ cs) rest e h = ap (λ v. cond v 1 0) (or_parts (is_lf c) (is_cr c) (or_parts (is_lf c || is_cr c) (has_end cs) e).0).0

cr_feeds : (ls : List (List Char)) → any has_end ls ≡ false → feeds (with_ends cr ls) ≡ 0
cr_feeds [] e = refl
cr_feeds (l ∷ ls) e = ap feeds (append_assoc l (end_chars cr) (with_ends cr ls)) ∙ no_feed l (end_chars cr ++ with_ends cr ls) (or_parts (has_end l) (any has_end ls) e).0 refl

-- an end of each kind ends the line
after_line_end : (e : LineEnd) (line : List ℕ) (rest : List Char) → (e ≡ cr → feeds rest ≡ 0) → lines_after 0 line (end_chars e ++ rest) ≡ line ∷ lines_after 0 [] rest
after_line_end lf line rest h = refl
after_line_end crlf line rest h = refl
after_line_end cr line rest h = ap (λ n. line ∷ lines_after n [] rest) (h refl)

feeds_by : (e : LineEnd) (ls : List (List Char)) → any has_end ls ≡ false → e ≡ cr → feeds (with_ends e ls) ≡ 0
feeds_by e ls h q = ap (λ d. feeds (with_ends d ls)) q ∙ cr_feeds ls h

pub line_ends_may_be_exchanged : LineEndsMayBeExchanged
line_ends_may_be_exchanged e [] h = refl
line_ends_may_be_exchanged e (l ∷ ls) h =
    let p = or_parts (has_end l) (any has_end ls) h in
    ap (lines_after 0 []) (append_assoc l (end_chars e) (with_ends e ls))
    ∙ joins l (end_chars e ++ with_ends e ls) [] p.0
    ∙ after_line_end e (text l) (with_ends e ls) (feeds_by e ls p.1)
    ∙ ap (λ t. text l ∷ t) (line_ends_may_be_exchanged e ls p.1)

-- lines without a blank one finish no block
none_finished : (k ms : List Line) → any blank ms ≡ false → (parted_after k ms).finished ≡ []
none_finished k [] e = refl
none_finished k ([] ∷ ms) e = absurd (false≢true (sym e))
none_finished k ((b ∷ l) ∷ ms) e = none_finished (k ++ (b ∷ l) ∷ []) ms e

same_finished : (k ls ms : List Line) → any blank ms ≡ false → (parted_after k (ls ++ ms)).finished ≡ (parted_after k ls).finished
same_finished k [] ms e = none_finished k ms e
same_finished k ([] ∷ ls) ms e = ap (λ bs. k ∷ bs) (same_finished [] ls ms e)
same_finished k ((b ∷ l) ∷ ls) ms e = same_finished (k ++ (b ∷ l) ∷ []) ls ms e

pub unfinished_blocks_are_dropped : UnfinishedBlocksAreDropped
unfinished_blocks_are_dropped b ls ms e = record { events = ap (events_from []) (same_finished [] ls ms e); last_id = ap (last_id_after b.last_id) (same_finished [] ls ms e) }

pub without_a_blank_line_nothing_is_kept : WithoutABlankLineNothingIsKept
without_a_blank_line_nothing_is_kept s e = ap (events_from []) (none_finished [] (lines_of s) e)

pub a_first_mark_is_dropped : AFirstMarkIsDropped
a_first_mark_is_dropped s = refl
