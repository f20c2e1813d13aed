-- Made by `cargo run --release -p vectors -- all`
-- Random pairs of scripts: the premise holds of them where the one in Rust does.
use mathlib.Core.Path.{◌≡◌, refl}
use mathlib.Core.Bool.{true, false}
use mathlib.Core.List.{List, [], ◌∷◌}
use Rattle.token.specs.Keyword.{keyword_of}
use Rattle.text.specs.Text.{is_text}
use Rattle.items.specs.Items.{sign_of}
use Rattle.blackout.specs.Blackout.{alike, blackout}
use Rattle.blackout.proofs.Trials.{Both, both, premises, verdicts}

abbrev pairs : List Both
pairs =
    both 1 "class a { } #(\n a " "class s { } #\t\n f " true ∷
    both 2 "#ii\ncontfnueZ\"\r==\"a0\"" "# !\ncontfnueZ\"'(\u{7f}\"fe\"" true ∷
    both 1 "&IN\t%  #a\\n" "&_N\n%  #a\\n" false ∷
    both 2 "\"\u{7f}0\"001689455954101continuetru" "\"ß¿\"001689455954101sr11rrfe8oA" true ∷
    both 1 "b if #\n " "b if #\n " true ∷
    both 2 "return \n \n \n " "return \n \n \n " true ∷
    both 1 ";" ";" true ∷
    both 2 "cat1ch!=thisz#!elsethis  \"1.5\\\\b c\"3.  " "c t1ch!=thisz#!elsethis  \"1.5\\\\b c\"3.  " false ∷
    both 1 "f\\or\r\"#\u{7f}Ã©\t\"\r\n" "f\\9r\r\"#\u{7f}Ã©\t\"\r\n" false ∷
    both 2 ";#\n\r\nclasst \"â\u{80}¨\"]FOR\t%" ";#\n\r\nclasst \"Z'a\"]fn_\t%" true ∷
    both 1 "1for=\rsuperAforlet0.00000000000000" "1for=\r)uperAforlet0.0000000000000," false ∷
    both 2 ";  \"\\\\\u{7f}\\n\" :le\t\"\"\r\r\nsuper  (." ";  \"\\\\#\\n\" :Z \t\"\"\r\r\nsuper  (." false ∷
    both 1 "\"\" \"\r\" % = < ) true try let { " "\"\" \"a\" % = < ) true try let { " true ∷
    both 2 "`\rcontinue his break\"â\u{82}¬b c\r\\t\t\"\"Ã\u{9f}]" "`\rcontinua=his b)eak\"â\u{82}¬b c\r\\t\t\"\"Ã\u{9f}]" false ∷
    both 1 "#\n \n \n #\\ \u{7f}\n \n " "_\n \n \n<#\\ \u{7f}\n \n " false ∷
    both 2 "{ nil } \n " "{ nilt} \n " false ∷
    both 1 "-\r\n\"\" ( @\t\"\"while\"\\\"\0if\"\relif" "<\r\n@\" ( @\t\"\"while\"\\\"\0if\"\relif" false ∷
    both 2 "else ; [ false " "else ; [ false " true ∷
    both 1 "{\"\\t\n\0\\0\"\r\u{c}try\rforreturnelif\"!â\u{82}¬\\\"\t^" "{\"\\t\n\0\\0\"\u{7f}ð\u{9f}\u{98}\u{80}''\tà\u{a0}\u{80}(\ta\0\u{7f}__=\"!â\u{82}¬\\\"\t^" true ∷
    both 2 "\n - " "\n }\\" false ∷
    both 1 "; \n \n " "; \n \n " true ∷
    both 2 "class a \n " "cl ss a \n\n" false ∷
    both 1 ";\"\\n\\ra\"\r\n~\rx" ";\"\\n@ra\"\r\n~qx" false ∷
    both 2 "\"\"" "}\"" false ∷
    both 1 "?\r\n\"#\\r\"  orr#\"\\t\\\n" "?\r\n\"#\\r\" borr#\"\\t\\\n" false ∷
    both 2 "class tr < b { " "class rf < a { " true ∷
    both 1 "] \n % #\t}Ã©\n " "] \n % #\t}Ã©\n " true ∷
    both 2 "\u{c}472632007209\"\\n\\nÃ©\\t#\"" "\u{c}472632007209\"\\n\\n=Z\\t'\"" true ∷
    both 1 "and " "and " true ∷
    both 2 "elifi:0010000." "ro8t9:0010000." true ∷
    both 1 "^" "^" true ∷
    both 2 "<=+ ]continuetryfalsethis" "<=+ ]conti uetryfalsethis" false ∷
    both 1 "\n return " "\n return " true ∷
    both 2 "\"\t\"\r\nfo##\nr\n\r244.71\"34" "\"_\"\r\nfo#!\ne\n\r244.71\"34" true ∷
    both 1 "super<=\r\nand)" "super<=\r\nand)" true ∷
    both 2 "\"\\ta\n\rH" "\"\\ta\n\rH" true ∷
    both 1 "} " "}(" false ∷
    both 2 "f #\0\u{7f}\t\n \n ( " "i #}ß¿\n \n ( " true ∷
    both 1 "\n return #\t\"}\\!\n super . breakreturn \n " "\n return #\\\"\ta.\n super . _oesZeootin \n " true ∷
    both 2 "#\t\\t\\\\\n\r\"\r\u{7f}\"let\t+" "#0\\#\\\\\nq\"\r\u{7f}\"let\t+" false ∷
    both 1 ">\r\"ô\u{8f}¿¿!b c\"0^\t\"\\t\n\" #b câ\u{82}¬â\u{82}¬\n!\r\nif!" ">\r\"ô\u{8f}¿¿aâ\u{80}¨\"0^\t\"\\t\n\" #\\.=}\\\u{7f}_Ã©\n!\r\nif!" true ∷
    both 2 "+#ô\u{8f}¿¿ô\u{8f}¿¿\t\n\"Ã©ifÃ\u{9f}\"\r\n}\"\"(\r\n" "+#Zâ\u{80}¨\"a}\"=\n\"(ß¿â\u{80}¨\"\r\n}\"\"(\r\n" true ∷
    both 1 "in ##ô\u{8f}¿¿\n == { " "in #\"a \"a\n == { " true ∷
    both 2 "0000000004407.28500\r\nnØtt" ";000000004407.28500n\n.Øtt" false ∷
    both 1 "RETURN\"\t\"continue\r\n\"aÃ\u{9f}\"  +" "RETZRN\"\t\"{ontinue\r\n\"aÃ\u{9f}\"  +" false ∷
    both 2 "elif\r0001000000000000\u{10}0  #!\0Ã\u{9f}\n\rZr" "elif\r0001000000000000\u{10}0  #!\0Ã\u{9f}\n\rs1" true ∷
    both 1 "r" "o" true ∷
    both 2 ".  FN\"\"\r\n" ". @FN\"\"\r}" false ∷
    both 1 "= [ - b , fn ( thiselse ) a ] " "= [ - r , fn ( continut ) n ] " true ∷
    both 2 "break for leta in a a : \n <= break \n " "break for leta (n a a :<\n <=<break \n " false ∷
    both 1 "\",0.00" "\",0.00" true ∷
    both 2 "super ( ) \n " "suber ; ) \n " false ∷
    both 1 "!falsez>\"if\t1.5\" \u{c}\\\r90071992547410006;" "!retern>\" Z.\0_\u{7f}\" \u{c}\\\r90071992547410006;" true ∷
    both 2 "{ _0 \n true } \n 1.5 " "{ _0 \n true } \n 1.5 " true ∷
    both 1 "=#\\\"tr\\ueOR128.2\r\nfn0.23424]ifsuper" "=#\\\"tr\\ueOR128.2\r\nfn0.23424]nn\"iZ_A" false ∷
    both 2 "\n } for e8lif 1 1 #(\n ) let for " "\n })for e8lif 1 1 #(\n,) let for " false ∷
    both 1 "[ #\n or class for #\t\n return a / " "[ #\n or class for # \n return a / " true ∷
    both 2 "> #\"\r(\"@\n \n < su if = } " "> #\"\r(\"@\n a < su if # } " false ∷
    both 1 "forclass10000000000000000000" "oefet_t_10000000000000000000" true ∷
    both 2 "a = ( true_ = eturn \n " "a = ( ss_ie = fal8e \n " true ∷
    both 1 "this \n >= " "this \n >= " true ∷
    both 2 "\n " "\n " true ∷
    both 1 "this } ; not #\n ] nil false ! ) 1.5 " "this } ; not #\n ] nil false ! ) 1.5 " true ∷
    both 2 "}  90071992.54740993break\"#\tb c\"" "}  90071992.54740993break\"!ï¿¿_\"" true ∷
    both 1 "for " "for " true ∷
    both 2 "return0 classelse\n\r,ors0.00000900719" "eZo9ssZ classelse\n\r,ors0.00000900719" true ∷
    both 1 "{ } / ) \n for ; \"\0\" ; a \n thi \n " "{ } / ) \n for ; \"a\" ; a \n leZ \n " true ∷
    both 2 "breakcatch" "Z_ni_i1a9n" true ∷
    both 1 "= " " ." false ∷
    both 2 ")\"\r\\t\\0\"[\t|\r\n,\r" ")\"\r\\t\\0\"[\t|\r\n,\r" true ∷
    both 1 "31255011062588`:\rnot  elif9" "31n55011062588`: not  elif9" false ∷
    both 2 "0000000000000000000000000000" "000(0000000<0000000000000000" false ∷
    both 1 "while b \n a \n " "whil} b9\n a \n)" false ∷
    both 2 "%" "\"" false ∷
    both 1 "\n while c false + " "\n while f false + " true ∷
    both 2 "#" "0" false ∷
    both 1 "class el8se < \n ] { \n \n \n } \n " "cl=ss el8se < \n ] { 9 \n \n } \n " false ∷
    both 2 "super . " "super . " true ∷
    both 1 "{ b let [ + else " "{ A let [ + else " true ∷
    both 2 "elifb fn ( " "tess9 fn ( " true ∷
    both 1 "< ] ( } " ". ] ( } " false ∷
    both 2 "#\u{7f}\n this ! super + } = " "_\u{7f}\n this ! super + } = " false ∷
    both 1 "c or c #\\Z(@\n = \n breakb \n \n " "A or Z ##'\r}\n = \n At_eZZ \n \n " true ∷
    both 2 "{|*urteif\"ô\u{8f}¿¿\\\\0\"if\"ifb c\u{86}©if\"#ð" "{|*ur{eif\"ô\u{8f}¿¿\\\\0\"if\"iZb c\u{86}©if\"#ð" false ∷
    both 1 "$~\t=nil\t0" "$~\t=nil\t0" true ∷
    both 2 "\n\u{e}\\\"" "\n\u{e}\\\"" true ∷
    both 1 "009071992547\"40992F\0LSE" "009071992547\"40992F\0LSE" true ∷
    both 2 "\u{7f}4134S20.<==\"\\\\â\u{80}¨\\\\\"\" #Ã©\r\"1.5\n\r" "\u{7f}4134tit.<==\"\\\\ a'\\r\"\"ô\u{8f}¿¿@\"1.5\n\r" false ∷
    both 1 "while OR fn " "while Af fn " true ∷
    both 2 "!\rBREAK\"â\u{80}¨\" 090071992547409.92  \"\\\\\"\ran" "!\rBREAK\"\"a'\" 090071992547409.92  \"\\\\\"\rsf" false ∷
    both 1 "== ; fal1se } elif ) 2 while ) . in " "== ; asf1af } elif ) 2 while ) . in " true ∷
    both 2 "\"0ð\u{9f}\u{98}\u{80}â\u{82}¬\0\" " "\"0ð\u{9f}\u{98}\u{80}â\u{82}¬\0\"\"" false ∷
    both 1 "super\"â\u{82}¬\"\"\\\"#1.5\\ \t\"1.5aÃ©Ã©" "supe \"â\u{82}¬\"\"\\\"#1.0\\ \t\"1.5aÃ©Ã©" false ∷
    both 2 "elift" "Aatch" true ∷
    both 1 "return super . a " "return super . o " true ∷
    both 2 "while ( or8 ) \n continue let \n b \n " "while ( rot ) \n continue let \n r \n " true ∷
    both 1 "0.00000007597462576!=while[nt0" "0.00000007597462576!=while[sr0" true ∷
    both 2 "fn ( ) - this \n true #a_!'\n " "fn ( ) - this \n true #a_!'\n " true ∷
    both 1 "#\u{7f}\n#\n\"!ð\u{9f}\u{98}\u{80}\\\"\\t\"\\\\\"and^super0.0000016722" "#\u{7f}\n#\n\"!ð\u{9f}\u{98}\u{80}\\\"\\t\"\\\\\"and^0uper0.00000167Z2" false ∷
    both 2 "900" "\"0," false ∷
    both 1 "! " "n\n" false ∷
    both 2 "\"\u{7f}\"!\u{15}$" "\"\u{7f}\"!\u{15}$" true ∷
    both 1 "\"Uð\u{9f}\u{98}\u{80}\\ \"\t" "\"Uð\u{9f}\u{98}\u{80}\\ \"\t" true ∷
    both 2 "break\r90071992547409.9225\t" "break\r90071992547409.9225\t" true ∷
    both 1 "ca\\tch" "ii\\tch" true ∷
    both 2 "this\"\t\\" "this\"\t\\" true ∷
    both 1 "'" "Z" false ∷
    both 2 "continue \n \n break #}\n " "continue \n \n break #@\n  " false ∷
    both 1 ": \n if 2 \n } ( ( \n ; > { " ": \n if 2 \nq} ( ( \n ; > { " false ∷
    both 2 "^ #a(Zß¿\n fn > \n #\n and #\"\"a\n \n not " "^ #a(Zß¿\n fn > \n #\n and <\"\"a\n \n not " false ∷
    both 1 "< != ( : c + \n " "< != ( :   + \n " false ∷
    both 2 "9007199254740411 [" "900(19925474x4x1 [" false ∷
    both 1 "a #\u{7f}=\n " "# #\"a\n " false ∷
    both 2 "\\\"\u{7f}\u{7f}\"#\n!=#\nô\r9return1798887738940\r\n" "\\\"\u{7f}\u{7f}\"#\n!=#\nô\r9re)urn1798887738940\r\n" false ∷
    both 1 "#â\u{80}¨\0\n try \n a super f let " "#à\u{a0}\u{80}\u{7f}\n try \n n super Z let " true ∷
    both 2 "elif0.0\u{5}" "aalse.0\u{5}" true ∷
    both 1 ":<else+\"\\nÃ\u{9f}\"`  ;â\u{82}¬" ":<else+\"\\n} \"`  ;â\u{82}¬" true ∷
    both 2 "0.clas\r\nð\u{9f}\u{98}\u{80} " "0.clbs\r\nð\u{9f}\u{98}\u{80} " true ∷
    both 1 "#\n\r\n0." "#\n\r\n0." true ∷
    both 2 "classsup\\1eer\"\"\"Ã©Ã\u{9f}\\tb c\"\"Ã©\"\tsuper" "Za00rr0e\\1eer\"\"\"Z(!'\\tï¿¿\"\"Ã©\"\tsuper" true ∷
    both 1 "/>=\"!Ã\\©\\n\r\"a\\\n\"\tFALSE" "/><b!Ã\\©\\n\r\"a\\\n\"\tFALSE" false ∷
    both 2 "\"\\r\r\n\"" "\"\\r\\\n\"" false ∷
    both 1 "class thislet < catchif { b ( " "class thislet < catchi# { b ( " false ∷
    both 2 "|  or148481\tnotthis1#\n\"\u{7f}00ifâ\u{80}¨\"$\t" "|  tZas91Zn\tnotthis1#\n\"Z\0= \0_(Z\"$\t" true ∷
    both 1 "while in ) = " "\"hilx i\\ ) = " false ∷
    both 2 "\n break " "\n break " true ∷
    both 1 "[ catchnil , b ] . a \n " "[ cZtchnil , b ] . a \n " true ∷
    both 2 "an\"\\\"a\\r\"#\\n\n\t9007199254741163*=\r\n=" "an\"\\\"a\\r\"#\\n\n\t9\t07199254741163 =\r\n=" false ∷
    both 1 "while true == continueor \n " "while true == AAintennst \n " true ∷
    both 2 "\n continue \n " "\n contin e \n " false ∷
    both 1 "!not\r<while\"\n\"!+\r\"â\u{80}¨Ã©\"" "!not\r<while\"\n\"!+\r\"\r\tà\u{a0}\u{80}\"" true ∷
    both 2 "falscont@nuelet\"\\n\0ifb c\r#\\\"\\n\n\r#\n this" "falscZnt@nuelet\"\\n\0ifb c\r#\\\"\\n\nn#{ this" false ∷
    both 1 "*else\ncatcch\tefifcatch[  \"\n!\"?  " "*else\ncatcch\tefifnatch<  \"\n,\"?  " false ∷
    both 2 "< \"!Ã©\\t\\r\" == > == - " "< \"@(a\\t\\r\" == > == - " true ∷
    both 1 "* > / == . <= > \n \n \n >= b return " "* > / == . <= > \n a \n >= b reaurn " false ∷
    both 2 "\"â\u{82}¬\"\tAND +9007199254740522elia" "\"_=\u{7f}\"\tf0A +9007199254740522oAn9" true ∷
    both 1 "{Q leetb09007199254.740993" "{e supAr09007199254.740993" true ∷
    both 2 "} " "} " true ∷
    both 1 "\n 1 1.5 " "\n 1 <.\\0" false ∷
    both 2 "continue #a\"a.\n \n " "continue #a\"a.\n \n " true ∷
    both 1 "\"\\\"ð\u{9f}\u{98}\u{80}ð\u{9f}\u{98}\u{80}Ã© " "\"\\\"ð\u{9f}\u{98}\u{80}ð\u{9f}\u{98}\u{80}Ã© " true ∷
    both 2 "\n 1 #\"a@\n " "\n 1 #!}@\n " true ∷
    both 1 "nott!\"\0\\\"\u{7f}â\u{82}¬\"\t" "rfna!\"#\\\"\r@\u{7f}'\"\t" true ∷
    both 2 "FOR  |ina\rbreak\tlse#if\\t\n\telse\"\râ\u{80}¨ð\u{9f}\u{98}\u{80}" "FO\n  |iba\rbreak\tlse#if\\t\n\telse\"\râ\u{80}¨ð\u{9f}\u{98}\u{80}" false ∷
    both 1 "\n return c . a . b . tr #\n = b \n " "\n return c . a . b . tr #\n = b _ " false ∷
    both 2 "\"ð\u{9f}\u{98}\u{80}0\00Ã\u{9f}\"~\\#â\u{82}¬#\nÃ©\r\n\"â\u{82}¬\"  fbr" "\"ð\u{9f}\u{98}\u{80}0\00Ã\u{9f}\"~\\#â\u{82}¬#\nÃ©\r\n\"â\u{82}¬\"  fbr" true ∷
    both 1 "\n this0 " "\n this0 " true ∷
    both 2 "trueA \n if this { } else { } ^ " "trueA \n qf this { } else { } ^ " false ∷
    both 1 "{ " "{ " true ∷
    both 2 "not #\r\t_\\.\n \n b \n " "not #\r\t_\\.\n \n _ \n " true ∷
    both 1 "let \n b \n \n #Z\t\"a.\n : not " "let \n i \n \n #(#\"a}\n : not " true ∷
    both 2 "return \n #ï¿¿}\n #\"a.@\u{7f}\n " "return \n #ï¿¿}\n #\"a.@0\n " true ∷
    both 1 "000" "!\\0" false ∷
    both 2 "\"\t\nif#\"==#0Ã7\n \"\\n\"900" "\"\t\nif#\"==#0Ã7x \"\\n\"900" false ∷
    both 1 "if continue \u{c}" "if continue \u{c}" true ∷
    both 2 "00900719925474.099^or!b" "00900719925474.099^or!\n" false ∷
    both 1 "this " "this " true ∷
    both 2 "fn ] and % or " "fn ] a\\d % \"r " false ∷
    both 1 "\"\"Ã©\\t\"1000000\r" "\"\"Ã©\\t\"=000000\r" false ∷
    both 2 "<andb92y\"\\\"\u{7f}\\\"}\r900719r54740t.92continu" "<andb92y\"\\\"\u{7f}\\\"}\rb00719r54740t.)2continu" false ∷
    both 1 "% or #.\n break b and * ] \n " "% qr #.\n break b and * 9 \n " false ∷
    both 2 "\n this #\n " "\n this #\n " true ∷
    both 1 "\u{c}0.0000000000000005312022>=\"\"" "\u{c}0.00\"00000000000053120Z2>=\"\"" false ∷
    both 2 "\"â\u{82}¬\\ \"\"if\"\r" "\"â\u{82}¬\\ \"\"if\"\r" true ∷
    both 1 "#\\\"\n\"1.r\\\\\t\\\r\"5eturn " "#\\\"\n\"1.r\\\\\t\\\r\"5eturn " true ∷
    both 2 "0.00000900\"\"7199254741953&if#!\\n\\r\n  " "0.00000900\"\"7199254741953&if#a#\"\ta\n  " true ∷
    both 1 "! " "! " true ∷
    both 2 "- catch ^ true < ! \n " "- catch ^ true < ! \n " true ∷
    both 1 "in #\n , : \n = for - f9n true catch " "in #\n ,}: \n = for - f9n true catch " false ∷
    both 2 "\n \n { } \n " "\n \n { ! \n " false ∷
    both 1 "this1#\u{7f}\n\n\rreturn\t#\\tÃ©\nifs" "this1# \n\n\rreturn\t#!â\u{82}¬\nifs" true ∷
    both 2 "let let b #\t\n return class9 or \n b \n " "let let r #\n\n return ZasfAo or \n Z \n " false ∷
    both 1 "!= break \n a + a = ni0l or ^ l " "!= break \n a + a = ni_l or ^ l " false ∷
    both 2 ";if#\tÃ\u{9f}\nâ\u{82}¬#\\\\\n\u{c}" ";if#\tÃ\u{9f}\nâ\u{82}¬#\\\\\\\u{c}" false ∷
    both 1 "0.0000185555947461970" "0.00001.5555947461970" false ∷
    both 2 "= b \n " "= e \n  " false ∷
    both 1 "\n b " ", b)" false ∷
    both 2 "if ) { #\"a\0\n nil \n } \n " "if ) { #!Â\u{80}\n nil \n } \n " true ∷
    both 1 "`}  000100.00000>0." "`}  000100.00000>0." true ∷
    both 2 "( \n WHILE ) #Z \"a\n " "( \n )9ILE )\n#Z \"a\n " false ∷
    both 1 "con\"tinte bor;ELIF\rcatc0" "oot\"tinte bor;ELIF\rcatc0" true ∷
    both 2 "\n class " "\n class " true ∷
    both 1 "2594.7023 2.3127157360272>=##\n false  " "2594.7023 2.3127157360272>=##\n false  " true ∷
    both 2 "whi\"le\r" "whi{l}\r" false ∷
    both 1 "for ; fn (  , b ) { " "for ; fn (  , b ) { " true ∷
    both 2 "- tryelif / \n super super \n > [ : not ; " "- tryel f / \n super{super \n > [ : no) ; " false ∷
    both 1 "090à71925474.0991}\"\r\\\"#\r\"" "090à719,5474.0991}\"\r\\\"#=\"" false ∷
    both 2 "#\\\"a.Z\n let c 0.25 " "#\\\"a.Z\n let r 0.25 " true ∷
    both 1 "and\r\nn0ot " "a0d\r\nn0ot " false ∷
    both 2 "â\u{82}¬\"\"\r\"\"" "â\u{82}¬\"\"\r\"\"" true ∷
    both 1 "fn try8 ; ( ) ( or c this . b # (\n " "fn try8 ; ( ) ( or c this . _ #ZZ\n " true ∷
    both 2 "contin¡e\"_\r\"\n`" "cont9n¡e\"_\r\"\n\"" false ∷
    both 1 "andtrysuper\ttrybrea\u{c}whilecatcs CATCH" "andtrysuper\ttrybrea\u{c}xhilecatcs CATCH" true ∷
    both 2 "fn try8 ( breaksuper ) { } a # \n " "fn trse ( breaksuper ) { } \" #\r\n " false ∷
    both 1 "% " "% " true ∷
    both 2 "let c = - trya \n " "let t = - _his \n " true ∷
    both 1 "\\]eseb ?tAy\r\\ \"#[i1n\"\\t\n\"" "n]eseb ?oAo\r\\ \".ZÂ\u{80}\0\"\\f\n\"" false ∷
    both 2 "` if\"\\n\t\tb cÃ©\"  fn" "`0if\"\\n\t\tb cÃ©\" \tfn" false ∷
    both 1 "^\"\rð\u{9f}\u{98}\u{80}!q-" "^\"\rð\u{9f}\u{98}\u{80}!q- " false ∷
    both 2 "8break\t\"â\u{82}¬\n\"\n" "8break\t\"aß¿\n\"\n" true ∷
    both 1 "try tryn catch a a1 \n 2. " "try A_nf catch n a1 \n 21 " false ∷
    both 2 "\n %@\"if\\\\1.5#â\u{82}¬\"  falseand\r\n\n \"\u{7f}\0Ã\u{9f}0\"" "\n %@\"\n\0\\\\}â\u{80}¨!('\"  coftinue\r\n\n \"\r#\r=a\"" false ∷
    both 1 "\n a = c while b = n9il \n " "\n a = a while s = n9sa \n " true ∷
    both 2 "\"Ã©\"!=trueSUPER\r. -true<\r\"b cô\u{8f}¿¿\\\\\"\r" "\"'_\"!=trueSUPER\r. -true<\r\"Z'}!@'=\\\\\"\r" true ∷
    both 1 ";[\t+  \"#\r0\"andnilfor" ";[\t+  \"#,0\"anxnilfor" true ∷
    both 2 "true  ==" "true  ==" true ∷
    both 1 "false Xô\u{8f}¿¿1.5\\n\\q\"in\t{>#a\"\n" "f: se Xô\u{8f}¿¿1.5\\n\\q\"in\t{>#=\"\n" false ∷
    both 2 "9" "9" true ∷
    both 1 "\"\\t\\\r\n(and\"\\\"nilwhi\u{8d}e\r\n" "\"\\t\\\r\n(and\"\\!,ilwhi\u{8d}}\r\n" false ∷
    both 2 "fn c ( ) this \n " "fn c ( ) th9s \n " false ∷
    both 1 "] [ \n ] . for ) 1 in , <= #\t\n <= " "] [ \n ] . for ) 1 in , <= #\r\n <=  " false ∷
    both 2 "while ( ) #\n { nil \n \n " "while ( ) #\n { nil \n \n " true ∷
    both 1 "le29926262606.0\r" "le29926262.06.0\r" false ∷
    both 2 "BREAK#\n\"Ã©#b cif\\\"  \"\\t\n\\\"b c\relifA!=:" "BREAa#a\"Ã©#b cif\\\"  \"\\t\n\\\"b c\relifA!=:" false ∷
    both 1 "\n this - " "\n tais}x " false ∷
    both 2 "continue \n \n while c b #!\n \n " "continue \n \n while t n #\n\n \n " false ∷
    both 1 "=/ifsinnot,998.284" "=/oaZsonfa,998.284" true ∷
    both 2 "break " "aaeak " false ∷
    both 1 "try \n catch CLASS \"\" \n " "try \n catch CLASS \"\" \n " true ∷
    both 2 "b + try in for this < " ". + try in for this < " false ∷
    both 1 ". { } \n " ". {9}@\n " false ∷
    both 2 "\\#\\\"a\n" "\\#\\(9}" false ∷
    both 1 "eli\\f8\"" "_f_\\f8\"" true ∷
    both 2 "return #\u{7f}_\n \n #ZÂ\u{80}\n < \n \n #\n " "retur<}#\u{7f}_\n \n #ZÂ\u{80}\n < \n \n #\n " false ∷
    both 1 "a \n \n . \n \n ) \n \n " "a \n \n . 0 \n ) \n \n " false ∷
    both 2 ".  \"a\"9007199254740991" ".  \"a\"9007199254740(91" false ∷
    both 1 "if true #\\#\t'\0\n { " "if true #à\u{a0}\u{80}aa\n { " true ∷
    both 2 "^ [ #Ã\u{9f}\\a\r\n \n : " "^ [ ,Ã\u{9f}\\a\r\n \n : " false ∷
    both 1 "let b \n { fn ( ifZ " "let b \n { fn ( ifZ," false ∷
    both 2 "class = " "cl9ss = " false ∷
    both 1 "]9007199254740.993\n  \"a\u{7f}\"" "]900719\\254\n40.993\n  \"a\u{7f}\"" false ∷
    both 2 "false return c \n " "fa\tse rZturn c \n " false ∷
    both 1 "\"\"?<=\r\nforbreak#\u{7f}#\t9007199254740993." "\"\"?<=\r\nforb,eak#\u{7f}#\t9007199254740993." false ∷
    both 2 "BREAKnillass0.00000000000000001o\r\"\" " "BREAKnillass0.00000000000000001a\r\"\" " true ∷
    both 1 "> elif b #(Z='\n break #\u{7f}\n " "> elif n #(Z='\n break #\u{7f}\n " true ∷
    both 2 "{ } \n break #à\u{a0}\u{80}\n " "{ } \n break #\"a#\n " true ∷
    both 1 "in \n \n in \n \n [ , ] true this . = " "in \n \n in \n \n [ , ] true this . = " true ∷
    both 2 "{returncatch\"!Ã©\\t\"\r" "<returncat}h\"!Ã©\\t\"\r" false ∷
    both 1 "\"\"\\true\"\"`<~\"â\u{80}¨\\nô\u{8f}¿¿\"\rTHISletNOT\r" "\"\"\\true\"\"`<~\"â\u{80}¨\\nô\u{8f}¿¿\"\rTHISl,tNOT\r" false ∷
    both 2 "if \n in9 { c } elif b " "if \n nZt { \n } elif Z " false ∷
    both 1 "#\\n\reli\u{16}n  0tr%e" "#\\\0\r!\\!\t(}ß¿#\"a." true ∷
    both 2 "b ( \n orz ) \n " "r ( \n orz ) \n " true ∷
    both 1 "\"1.50\u{7f}else=\torÃ©0.this.continue%" "\"1.5{\u{7f}else=\torÃ©0.t0is.continue%" false ∷
    both 2 "#ß¿!\n class a < b { # .\n } " "#ß¿!\n clabs a < b \" # .\n } " false ∷
    both 1 "not c ^ c + TRY [ b : ands ] = FALSE \n " "not e ^ _ + TRY [ b : eZif ] = euper \n " true ∷
    both 2 "+ ( #a\n " "+ ( #a. " false ∷
    both 1 ">1000\\\u{8}\\\"\"\r\n" ">1000\\\u{8}\\\"\"\r\n" true ∷
    both 2 "fo #=\"a\n " "A0 #ß¿Z\n " true ∷
    both 1 "0001818272412819161. 78810\"88283867\t'" "0001818272412819161. 78810\"88283867\t'" true ∷
    both 2 "for ; " ",or ; " false ∷
    both 1 "@\r\n" "@\r\n" true ∷
    both 2 "else9while==\ts" "else9while==\te" true ∷
    both 1 "b ( ) . ELIF [ false ] = b #\r \n " "b ( ) . ELIF [ false\\] = b #\r!\n " false ∷
    both 2 "#\n " "#\n " true ∷
    both 1 "super ) " "super ) " true ∷
    both 2 "continue  " "aontinue  " false ∷
    both 1 "\r\n#1.5\n'" "\r\n# #a\n'" true ∷
    both 2 "THISnot\t\"\r\"class1 \"\\t#\u{7f}  catch" "THISnot\t\"\r\"c9ass1 x\\9#\u{7f}  catch" false ∷
    both 1 "?0\"\"\"\\\"\">}rueandZ" "?0\"\"\"\\\"\">}_artaeo" true ∷
    both 2 "else = " "\\l\\e _ " false ∷
    both 1 "\"\t\"" "\"\\\"" false ∷
    both 2 "}  #`t\t\n\t18  \"\\\"if\"  ]T\u{12}Y\r\\\t" "}  #â\u{80}¨\n\t18  \"\\\"=}\"  ]T\u{12}\n\r\\\t" false ∷
    both 1 "not #\u{7f}a \0!\n \n \"aâ\u{80}¨\" \n false [ n1il ] \n " "not #\u{7f}a \0!\n \n \"aâ\u{80}¨\" \n false [.n1il ] \n " false ∷
    both 2 "162CONTINUE\rtry90071992547409.07" "162CONTInUE\rtry90071992547409.07" true ∷
    both 1 "; % } false nil \n { 1 continue " "; % } false nil \n { 1 continue " true ∷
    both 2 "let c = ( 1 #\n ) \n \n suber \n " "let e = ( 1 #\n ) \n \n ios90 \n " true ∷
    both 1 "this900n199254740\"88" "this900n199254740\"88" true ∷
    both 2 "â\u{82}\\¬\r\"15\01.5\\\"\"\"\\rÃ\u{9f}\n\t\"\r{" "â\u{82}\\¬b\"Z5\01.5\\\"\"\"\\bÃ\u{9f}\n\t\"\r{" false ∷
    both 1 "conttiue\t" "eontinue\t" true ∷
    both 2 "super . and \n " "super . and \n " true ∷
    both 1 "for ; nil ; \n \n a ] \n #Â\u{80}\n a #\0'\n 1.5 " "for ; nil ; \n \n _ ] \n #\r'\n Z #!!\n 1.5 " true ∷
    both 2 "\n \n \n let \n ( " "\n \n } l.t \n ( " false ∷
    both 1 "fn ( ) bot \n let b = b . orelse #_\n 1.5 " "fn ( ) nit \n let o = n . orelse #_\n 1.5 " true ∷
    both 2 "\n let a \n " "( let a0\n " false ∷
    both 1 "\"\r1.5\\t\"" "\".@\t.\\(\"" false ∷
    both 2 "return \n \n if #\\'.\n \n \n \n " "return \n \n if #\\'.\n \n \n \n#" false ∷
    both 1 "try \n . for " "}ry \n . for " false ∷
    both 2 "?\"if= c\"" "?\"ð\u{9f}\u{98}\u{80}\t\"" true ∷
    both 1 "#\u{7f}\r\"\"whilesforthis>9.007199254740992\u{c}\r\\\r" "#\u{7f}\r\"\"whilesfort is>9.0n7199254740992\u{c}\r\\\r" true ∷
    both 2 "#\n=#\n\"\u{7f}b cô\u{8f}¿¿\rô\u{8f}¿¿\"false+   N\r\n" "#\n=#\n\"\u{7f}b cô\u{8f}¿¿)ô\u{8f}¿¿\"false+   N\r\n" true ∷
    both 1 "\"â\u{80}¨\r#\\t\u{7f}\n\u{c}\u{7f}\"\\\t" "\"!aâ\u{82}¬\\t\0\n@=\"\\n" false ∷
    both 2 "elif,and0.0\\0000009007199254741298" "elif,ihis.0\\0000009007199254741298a" false ∷
    both 1 "[ not0 , eliffn ( ) = nil ] #\n break \n " "[ not0 , eliff\" ( \\ = nil ] #\n \"reak \n " false ∷
    both 2 "atch" "a9c)" false ∷
    both 1 "for a , b in ] notA let _ry \n " "for f , t in ] frae let noA \n " true ∷
    both 2 "9007199254 40^1]" "9007199254 40^1]" true ∷
    both 1 "et\u{c}continue \"super  @fn1#\n" "fa\u{c}continue \"super  @fn1#\n" true ∷
    both 2 "let class #\"\0!\\a\n #=\"à\u{a0}\u{80}\n " "let class #ô\u{8f}¿¿a\n #a\"\\\"a\n " true ∷
    both 1 "@  â\u{82}¬\"a\tb cb c\"IF\treturn" "@  â\u{82}¬\"a\tb cb c\"ot\treturn" true ∷
    both 2 "returnnfalse.\"\\ thiscatch" "An9Z8rs00tZs.\"\\ aAaoa8see" true ∷
    both 1 "{ } #\\\u{7f}\u{7f}=}\n break #Â\u{80}a\n " "{ } #\\\u{7f}\u{7f}=}\n break #Â\u{80}a\n " true ∷
    both 2 "'  false$ " "'  (alse$ " false ∷
    both 1 "] ! " "] ! " true ∷
    both 2 "!\"1.5â\u{80}¨\nnotcatch" "!\"1.(â\u{80}¨\nno.cat(h" false ∷
    both 1 "o > b \n " "oa> b!\n " false ∷
    both 2 "1000\t0." "1000\t0." true ∷
    both 1 "0.\r\nssperbFN  not " "0.\r\nnontinue  not " true ∷
    both 2 "for in / = a ; a ; c 1 \n " "for in / = Z ; r ; c 1 \n " true ∷
    both 1 "\n " "\n " true ∷
    both 2 "\n continue " ", cont9nue " false ∷
    []

agree : premises pairs ≡ verdicts pairs
unfolding blackout alike is_text keyword_of sign_of
agree = refl
