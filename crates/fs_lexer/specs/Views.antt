-- What a token of the code is as a value: without where its text lies in memory.
use Rattle.fs_lexer.specs.Spelling as spelling
use Rattle.fs_lexer.specs.declared.token.Token.{Token}

abbrev pub token_of : Token → spelling.Token
token_of t = record { kind = t.kind; text = t.text.now; at = t.at }
