use Rattle.std.proofs.Common.{◌∷◌, [], List, ℕ}
use Rattle.speech.proofs.Splitting.{first_word, next_word, one_word}
use Rattle.speech.specs.Commands.{split_words}
use Rattle.speech.proofs.words.words_in.Goals as goal

pub returns-in_default : goal.returns-in_default
returns-in_default c = one_word c.args.line.now (rw c.in_default.is at c.split_once.ensures.cases)

pub returns-in_default-split_once : goal.returns-in_default-split_once
returns-in_default-split_once c =
    let second = c.in-Some.others.now in
    next_word c.args.line.now (c.in-Some.first, c.in-Some.others) (second ∷ []) (rw c.in-Some.is at c.split_once.ensures.cases)
    (one_word second (rw c.in_default-split_once.is at c.split_once-2.ensures.cases))

pub returns-in-None : goal.returns-in-None
returns-in-None c =
    let third = c.in-Some-split_once.others.now in
    let two : List (List ℕ) = c.in-Some-split_once.second.now ∷ third ∷ [] in
    next_word c.args.line.now (c.in-Some.first, c.in-Some.others) two (rw c.in-Some.is at c.split_once.ensures.cases)
    (next_word c.in-Some.others.now (c.in-Some-split_once.second, c.in-Some-split_once.others) (third ∷ []) (rw c.in-Some-split_once.is at c.split_once-2.ensures.cases)
    (one_word third (rw c.in-None.is at c.split_once-3.ensures.cases)))

pub returns-in-Some-split_once-2 : goal.returns-in-Some-split_once-2
returns-in-Some-split_once-2 c =
    let third = c.in-Some-split_once-2 in
    let behind : List (List ℕ) = third.third.now ∷ split_words third.rest.now in
    next_word c.args.line.now (c.in-Some.first, c.in-Some.others) (c.in-Some-split_once.second.now ∷ behind) (rw c.in-Some.is at c.split_once.ensures.cases)
    (next_word c.in-Some.others.now (c.in-Some-split_once.second, c.in-Some-split_once.others) behind (rw c.in-Some-split_once.is at c.split_once-2.ensures.cases)
    (first_word c.in-Some-split_once.others.now (third.third, third.rest) (rw third.is at c.split_once-3.ensures.cases)))
