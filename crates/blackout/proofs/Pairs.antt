-- Made by `cargo run --release -p vectors -- all`
-- Pairs of scripts: whether the premise holds of them, as the one in Rust says; and whether they are read alike, of which `alike` has the theorem.
use mathlib.Core.Path.{◌≡◌, refl}
use mathlib.Core.Bool.{true, false}
use mathlib.Core.List.{List, [], ◌∷◌}
use Rattle.token.specs.Keyword.{keyword_of}
use Rattle.text.specs.Text.{is_text}
use Rattle.items.specs.Items.{sign_of}
use Rattle.blackout.specs.Blackout.{alike, blackout}
use Rattle.blackout.proofs.Trials.{Pair, pair, unread, premises, verdicts}

abbrev pub pairs : List Pair
pairs =
    pair 1 "" "" true true ∷  -- nothing
    pair 2 "" "" true true ∷  -- nothing
    pair 1 "# abc\nx" "# d#\"\ny" true true ∷  -- a comment with other bytes
    pair 2 "# abc\nx" "# d#\"\ny" true true ∷  -- a comment with other bytes
    pair 1 "a#b\\" "c#\"d" true true ∷  -- a comment at the end
    pair 2 "a#b\\" "c#\"d" true true ∷  -- a comment at the end
    pair 1 "#Ã©\n" "#ab\n" true true ∷  -- a comment's letters
    pair 2 "#Ã©\n" "#ab\n" true true ∷  -- a comment's letters
    pair 1 "ab = 1\n" "xy = 1\n" true true ∷  -- a name
    pair 2 "ab = 1\n" "xy = 1\n" true true ∷  -- a name
    pair 1 "iff\n" "fnn\n" true true ∷  -- a name near a keyword
    pair 2 "iff\n" "fnn\n" true true ∷  -- a name near a keyword
    pair 1 "let a = b.cd[e]\n" "let x = y.zz[w]\n" true true ∷  -- names of a statement
    pair 2 "let a = b.cd[e]\n" "let x = y.zz[w]\n" true true ∷  -- names of a statement
    pair 1 "if a {b}\n" "if c {d}\n" true true ∷  -- names about keywords
    pair 2 "if a {b}\n" "if c {d}\n" true true ∷  -- names about keywords
    pair 1 "class a{b(){super.c}}" "class d{e(){super.f}}" true true ∷  -- super's method
    pair 2 "class a{b(){super.c}}" "class d{e(){super.f}}" true true ∷  -- super's method
    pair 1 "\"Ã©\"" "\"ab\"" true true ∷  -- a letter of two bytes
    pair 2 "\"Ã©\"" "\"ab\"" true true ∷  -- a letter of two bytes
    pair 1 "\"ab\"" "\"Ã©\"" true true ∷  -- two letters of one byte
    pair 2 "\"ab\"" "\"Ã©\"" true true ∷  -- two letters of one byte
    pair 1 "\"a\nb\" c" "\"x\ny\" d" true true ∷  -- a newline in a string
    pair 2 "\"a\nb\" c" "\"x\ny\" d" true true ∷  -- a newline in a string
    pair 1 "\"a\\n\\\"b\\\\\"" "\"#\\n\\\"1\\\\\"" true true ∷  -- escapes in a string
    pair 2 "\"a\\n\\\"b\\\\\"" "\"#\\n\\\"1\\\\\"" true true ∷  -- escapes in a string
    pair 1 "\"a\"b" "\"#\"a" true true ∷  -- marks in a string
    pair 2 "\"a\"b" "\"#\"a" true true ∷  -- marks in a string
    pair 1 "\"\\qa\" b" "\"\\qc\" b" true true ∷  -- after a wrong escape
    pair 2 "\"\\qa\" b" "\"\\qc\" b" true true ∷  -- after a wrong escape
    pair 1 "a \"b" "c \"b" true true ∷  -- before an open string
    pair 2 "a \"b" "c \"b" true true ∷  -- before an open string
    pair 1 "1.5a" "1.5b" true true ∷  -- after a number
    pair 2 "1.5a" "1.5b" true true ∷  -- after a number
    pair 1 "a ! b" "c ! d" true true ∷  -- about a message
    pair 2 "a ! b" "c ! d" true true ∷  -- about a message
    pair 1 "a 1.5" "b 1.5" true true ∷  -- a number to the last byte
    pair 2 "a 1.5" "b 1.5" true true ∷  -- a number to the last byte
    pair 1 "1=a" "1=b" true true ∷  -- a stop
    pair 2 "1=a" "1=b" true true ∷  -- a stop
    pair 1 "a" "a+" false false ∷  -- one byte more
    pair 2 "a" "a+" false false ∷  -- one byte more
    pair 1 "a+" "a" false false ∷  -- one byte less
    pair 2 "a+" "a" false false ∷  -- one byte less
    pair 1 "#ÿ" "#a" false false ∷  -- the first is no text
    pair 2 "#ÿ" "#a" false false ∷  -- the first is no text
    pair 1 "#a" "#ÿ" false false ∷  -- the second is no text
    pair 2 "#a" "#ÿ" false false ∷  -- the second is no text
    pair 1 "\"Ã©\"" "\"Ãa\"" false false ∷  -- half a letter
    pair 2 "\"Ã©\"" "\"Ãa\"" false false ∷  -- half a letter
    pair 1 "#â\u{82}¬\n" "#í\u{a0}\u{80}\n" false false ∷  -- a comment's letter, and a surrogate
    pair 2 "#â\u{82}¬\n" "#í\u{a0}\u{80}\n" false false ∷  -- a comment's letter, and a surrogate
    pair 1 "\"ô\u{8f}¿¿\"" "\"ô\u{90}\u{80}\u{80}\"" false false ∷  -- a string's letter, and more than the last
    pair 2 "\"ô\u{8f}¿¿\"" "\"ô\u{90}\u{80}\u{80}\"" false false ∷  -- a string's letter, and more than the last
    pair 1 "1" "2" false false ∷  -- a number
    pair 2 "1" "2" false false ∷  -- a number
    pair 1 "a+b" "a b" false false ∷  -- a mark
    pair 2 "a+b" "a b" false false ∷  -- a mark
    pair 1 "Ã©" "ab" false false ∷  -- a letter outside of strings
    pair 2 "Ã©" "ab" false false ∷  -- a letter outside of strings
    pair 1 "a\nb" "a b" false false ∷  -- a blank for a newline
    pair 2 "a\nb" "a b" false false ∷  -- a blank for a newline
    pair 1 "a b" "acb" false false ∷  -- a blank joins names
    pair 2 "a b" "acb" false false ∷  -- a blank joins names
    pair 1 "\"\\qab\"" "\"\\q1b\"" false false ∷  -- a string that isn't closed
    pair 2 "\"\\qab\"" "\"\\q1b\"" false false ∷  -- a string that isn't closed
    pair 1 "#a" "ba" false false ∷  -- a comment loses its #
    pair 2 "#a" "ba" false false ∷  -- a comment loses its #
    pair 1 "#a" "#\n" false false ∷  -- a comment gains a newline
    pair 2 "#a" "#\n" false false ∷  -- a comment gains a newline
    pair 1 "\"a\"" "1a\"" false false ∷  -- a string loses its first quote
    pair 2 "\"a\"" "1a\"" false false ∷  -- a string loses its first quote
    pair 1 "\"a\"" "\"ab" false false ∷  -- a string loses its last quote
    pair 2 "\"a\"" "\"ab" false false ∷  -- a string loses its last quote
    pair 1 "\"\\n\"" "\"an\"" false false ∷  -- a string loses a backslash
    pair 2 "\"\\n\"" "\"an\"" false false ∷  -- a string loses a backslash
    pair 1 "\"\\n\"" "\"\\q\"" false false ∷  -- an escape becomes wrong
    pair 2 "\"\\n\"" "\"\\q\"" false false ∷  -- an escape becomes wrong
    pair 1 "\"\n\"" "\"a\"" false false ∷  -- a string loses a newline
    pair 2 "\"\n\"" "\"a\"" false false ∷  -- a string loses a newline
    pair 1 "\"a\"" "\"\"\"" false false ∷  -- a string gains a quote
    pair 2 "\"a\"" "\"\"\"" false false ∷  -- a string gains a quote
    pair 1 "\"ab\"" "\"\\n\"" false false ∷  -- a string gains a backslash
    pair 2 "\"ab\"" "\"\\n\"" false false ∷  -- a string gains a backslash
    pair 1 "\"a\"" "\"\n\"" false false ∷  -- a string gains a newline
    pair 2 "\"a\"" "\"\n\"" false false ∷  -- a string gains a newline
    pair 1 "ab" "1b" false false ∷  -- a name gains a digit as its first byte
    pair 2 "ab" "1b" false false ∷  -- a name gains a digit as its first byte
    pair 1 "1a" "1b" true true ∷  -- a name right after a number
    pair 2 "1a" "1b" true true ∷  -- a name right after a number
    pair 1 "1a" "12" false false ∷  -- a name after a number joins it
    pair 2 "1a" "12" false false ∷  -- a name after a number joins it
    pair 1 "ab" "a " false false ∷  -- a shorter name
    pair 2 "ab" "a " false false ∷  -- a shorter name
    pair 1 "if" "ab" false false ∷  -- a keyword becomes a name
    pair 2 "if" "ab" false false ∷  -- a keyword becomes a name
    pair 1 "ab" "if" false false ∷  -- a name becomes a keyword
    pair 2 "ab" "if" false false ∷  -- a name becomes a keyword
    pair 1 "1 2" "1\t2" false true ∷  -- another blank
    pair 2 "1 2" "1\t2" false true ∷  -- another blank
    pair 1 "\"ab" "\"cd" false true ∷  -- an open string
    pair 2 "\"ab" "\"cd" false true ∷  -- an open string
    pair 1 "\"\\n\"" "\"\\t\"" false true ∷  -- another escape
    pair 2 "\"\\n\"" "\"\\t\"" false true ∷  -- another escape
    pair 1 "ab" "a1" false false ∷  -- a name gains a digit
    pair 2 "ab" "a1" true true ∷  -- a name gains a digit
    pair 1 "a1" "b2" false false ∷  -- a digit after a letter becomes another
    pair 2 "a1" "b2" true true ∷  -- a digit after a letter becomes another
    pair 1 "_1" "a_" false false ∷  -- a digit after a letter becomes a letter
    pair 2 "_1" "a_" true true ∷  -- a digit after a letter becomes a letter
    pair 1 "a1" "a " false false ∷  -- a digit after a letter becomes a blank
    pair 2 "a1" "a " false false ∷  -- a digit after a letter becomes a blank
    pair 1 "a1" "if" false false ∷  -- a letter with a digit becomes a keyword
    pair 2 "a1" "if" false false ∷  -- a letter with a digit becomes a keyword
    pair 1 "if" "i1" false false ∷  -- a keyword gains a digit
    pair 2 "if" "i1" false false ∷  -- a keyword gains a digit
    pair 1 "if1" "ab2" false false ∷  -- a keyword with a digit becomes a name
    pair 2 "if1" "ab2" true true ∷  -- a keyword with a digit becomes a name
    pair 1 "if1" "nil" false false ∷  -- a keyword with a digit becomes a keyword
    pair 2 "if1" "nil" false false ∷  -- a keyword with a digit becomes a keyword
    pair 1 "a1 = b2" "x9 = y_" false false ∷  -- letters and digits about a mark
    pair 2 "a1 = b2" "x9 = y_" true true ∷  -- letters and digits about a mark
    pair 1 "a1.5" "b2.5" false true ∷  -- a letter and a digit before a point
    pair 2 "a1.5" "b2.5" true true ∷  -- a letter and a digit before a point
    pair 1 "1.5" "2.5" false true ∷  -- a number with a point at the end
    pair 2 "1.5" "2.5" false false ∷  -- a number with a point at the end
    pair 1 "for a1 in b2 {}\nbreak" "for x9 in y_ {}\nbreak" false false ∷  -- an enhanced for and what stands after it
    pair 2 "for a1 in b2 {}\nbreak" "for x9 in y_ {}\nbreak" true true ∷  -- an enhanced for and what stands after it
    []

agree : premises (unread pairs) ≡ verdicts (unread pairs)
unfolding blackout alike is_text keyword_of sign_of
agree = refl
