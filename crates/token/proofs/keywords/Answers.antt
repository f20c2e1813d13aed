-- Among the words of the name's length, its letters decide.
use Rattle.std.proofs.Common.{sym, arith}
use Rattle.token.specs.Keyword.{keyword_of}
use Rattle.token.proofs.Sized.{no_length}
use Rattle.token.proofs.Spelled.{found, missed}
use Rattle.token.proofs.keywords.Goals as goal

pub returns-in-26222 : goal.returns-in-26222
unfolding keyword_of
returns-in-26222 c = found "fn" c.args.x.now c.type_inv.x tt c.in-2.is c.letters.ensures c.in-26222.is

pub returns-in-26982 : goal.returns-in-26982
unfolding keyword_of
returns-in-26982 c = found "if" c.args.x.now c.type_inv.x tt c.in-2.is c.letters.ensures c.in-26982.is

pub returns-in-28530 : goal.returns-in-28530
unfolding keyword_of
returns-in-28530 c = found "or" c.args.x.now c.type_inv.x tt c.in-2.is c.letters.ensures c.in-28530.is

pub returns-in-26990 : goal.returns-in-26990
unfolding keyword_of
returns-in-26990 c = found "in" c.args.x.now c.type_inv.x tt c.in-2.is c.letters.ensures c.in-26990.is

pub returns-in_default-letters : goal.returns-in_default-letters
returns-in_default-letters c = missed 2 c.args.x.now c.in-2.is c.letters.ensures ((((tt, λ h. omega arith), λ h. omega arith), λ h. omega arith), λ h. omega arith)

pub returns-in-6385252 : goal.returns-in-6385252
unfolding keyword_of
returns-in-6385252 c = found "and" c.args.x.now c.type_inv.x tt c.in-3.is c.letters-in-3.ensures c.in-6385252.is

pub returns-in-6713202 : goal.returns-in-6713202
unfolding keyword_of
returns-in-6713202 c = found "for" c.args.x.now c.type_inv.x tt c.in-3.is c.letters-in-3.ensures c.in-6713202.is

pub returns-in-7235948 : goal.returns-in-7235948
unfolding keyword_of
returns-in-7235948 c = found "nil" c.args.x.now c.type_inv.x tt c.in-3.is c.letters-in-3.ensures c.in-7235948.is

pub returns-in-7103860 : goal.returns-in-7103860
unfolding keyword_of
returns-in-7103860 c = found "let" c.args.x.now c.type_inv.x tt c.in-3.is c.letters-in-3.ensures c.in-7103860.is

pub returns-in-7237492 : goal.returns-in-7237492
unfolding keyword_of
returns-in-7237492 c = found "not" c.args.x.now c.type_inv.x tt c.in-3.is c.letters-in-3.ensures c.in-7237492.is

pub returns-in-7631481 : goal.returns-in-7631481
unfolding keyword_of
returns-in-7631481 c = found "try" c.args.x.now c.type_inv.x tt c.in-3.is c.letters-in-3.ensures c.in-7631481.is

pub returns-in_default-letters-2 : goal.returns-in_default-letters-2
returns-in_default-letters-2 c = missed 3 c.args.x.now c.in-3.is c.letters-in-3.ensures ((((((tt, λ h. omega arith), λ h. omega arith), λ h. omega arith), λ h. omega arith), λ h. omega arith), λ h. omega arith)

pub returns-in-1701606245 : goal.returns-in-1701606245
unfolding keyword_of
returns-in-1701606245 c = found "else" c.args.x.now c.type_inv.x tt c.in-4.is c.letters-in-4.ensures c.in-1701606245.is

pub returns-in-1701603686 : goal.returns-in-1701603686
unfolding keyword_of
returns-in-1701603686 c = found "elif" c.args.x.now c.type_inv.x tt c.in-4.is c.letters-in-4.ensures c.in-1701603686.is

pub returns-in-1952999795 : goal.returns-in-1952999795
unfolding keyword_of
returns-in-1952999795 c = found "this" c.args.x.now c.type_inv.x tt c.in-4.is c.letters-in-4.ensures c.in-1952999795.is

pub returns-in-1953658213 : goal.returns-in-1953658213
unfolding keyword_of
returns-in-1953658213 c = found "true" c.args.x.now c.type_inv.x tt c.in-4.is c.letters-in-4.ensures c.in-1953658213.is

pub returns-in_default-letters-3 : goal.returns-in_default-letters-3
returns-in_default-letters-3 c = missed 4 c.args.x.now c.in-4.is c.letters-in-4.ensures ((((tt, λ h. omega arith), λ h. omega arith), λ h. omega arith), λ h. omega arith)

pub returns-in-427020088179 : goal.returns-in-427020088179
unfolding keyword_of
returns-in-427020088179 c = found "class" c.args.x.now c.type_inv.x tt c.in-5.is c.letters-in-5.ensures c.in-427020088179.is

pub returns-in-439721161573 : goal.returns-in-439721161573
unfolding keyword_of
returns-in-439721161573 c = found "false" c.args.x.now c.type_inv.x tt c.in-5.is c.letters-in-5.ensures c.in-439721161573.is

pub returns-in-422826041707 : goal.returns-in-422826041707
unfolding keyword_of
returns-in-422826041707 c = found "break" c.args.x.now c.type_inv.x tt c.in-5.is c.letters-in-5.ensures c.in-422826041707.is

pub returns-in-495891539314 : goal.returns-in-495891539314
unfolding keyword_of
returns-in-495891539314 c = found "super" c.args.x.now c.type_inv.x tt c.in-5.is c.letters-in-5.ensures c.in-495891539314.is

pub returns-in-512852847717 : goal.returns-in-512852847717
unfolding keyword_of
returns-in-512852847717 c = found "while" c.args.x.now c.type_inv.x tt c.in-5.is c.letters-in-5.ensures c.in-512852847717.is

pub returns-in-426836779880 : goal.returns-in-426836779880
unfolding keyword_of
returns-in-426836779880 c = found "catch" c.args.x.now c.type_inv.x tt c.in-5.is c.letters-in-5.ensures c.in-426836779880.is

pub returns-in_default-letters-4 : goal.returns-in_default-letters-4
returns-in_default-letters-4 c = missed 5 c.args.x.now c.in-5.is c.letters-in-5.ensures ((((((tt, λ h. omega arith), λ h. omega arith), λ h. omega arith), λ h. omega arith), λ h. omega arith), λ h. omega arith)

pub returns-in-125780071117422 : goal.returns-in-125780071117422
unfolding keyword_of
returns-in-125780071117422 c = found "return" c.args.x.now c.type_inv.x tt c.in-6.is c.letters-in-6.ensures c.in-125780071117422.is

pub returns-in_default-letters-5 : goal.returns-in_default-letters-5
returns-in_default-letters-5 c = missed 6 c.args.x.now c.in-6.is c.letters-in-6.ensures (tt, λ h. omega arith)

pub returns-in-7165066978433856869 : goal.returns-in-7165066978433856869
unfolding keyword_of
returns-in-7165066978433856869 c = found "continue" c.args.x.now c.type_inv.x tt c.in-8.is c.letters-in-8.ensures c.in-7165066978433856869.is

pub returns-in_default-letters-6 : goal.returns-in_default-letters-6
returns-in_default-letters-6 c = missed 8 c.args.x.now c.in-8.is c.letters-in-8.ensures (tt, λ h. omega arith)

pub returns-in_default : goal.returns-in_default
returns-in_default c =
    sym (no_length c.args.x.now (λ h. omega arith) (λ h. omega arith) (λ h. omega arith) (λ h. omega arith) (λ h. omega arith) (λ h. omega arith))
