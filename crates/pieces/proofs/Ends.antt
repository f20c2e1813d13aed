-- What `collection` promises is the rest of a list, and that of a dictionary. Assumes nothing.
use Rattle.std.proofs.Common.{◌≡◌, refl}
use Rattle.token.specs.Kind.{right_brace_kind, right_curly_brace_kind}
use Rattle.records.specs.Kinds.{list_expr_kind, dictionary_expr_kind}
use Rattle.records.specs.Messages.{expected_end_of_list, expected_end_of_dict}
use Rattle.parser.specs.declared.Found.{Found}
use Rattle.pieces.specs.Pieces.{collection_end, list_end, dictionary_end}

pub list_ends : (elements : Found) → collection_end right_brace_kind expected_end_of_list list_expr_kind elements ≡ list_end elements
list_ends elements = refl

pub dictionary_ends : (elements : Found) → collection_end right_curly_brace_kind expected_end_of_dict dictionary_expr_kind elements ≡ dictionary_end elements
dictionary_ends elements = refl
