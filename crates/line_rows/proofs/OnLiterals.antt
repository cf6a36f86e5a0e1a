-- What is unfolded to compute a line on a literal.
use Rattle.std.specs.Prelude.{⊤}
use Rattle.std.specs.Str.{chars, is_utf8}
use Rattle.serde_json.proofs.OnLiterals.{serde_json_on_literals}
use Rattle.hex.proofs.OnLiterals.{hex_on_literals}
use Rattle.line_text.specs.Lines.{line_data}
use Rattle.line_text.specs.Operations.{first_of, worded_read, four_of, setting_read, spawn_read, custom_spawn_read, despawn_read, sync_read, public_read, for_read, filter_read, set_read, op_by, op_read}
use Rattle.line_text.specs.Parts.{word_read, text_read, bool_read, nat_read, i64_read, i32_read, bytes_read, array_read, none_of, one_of, two_of, three_of, two_read, three_read, list_read, object_read, key_read, optional}
use Rattle.line_text.specs.Peers.{peer_read}
use Rattle.line_text.specs.Reading.{each_read}
use Rattle.line_text.specs.Scenes.{prop_read, sets_read, method_read, sync_prop_read, sync_of, node_sync_read, scene_sync_read, custom_read, spawner_read, role_by, role_read, node_read, def_read, scene_read, valid_read, scene_line_read}
use Rattle.line_text.specs.Sessions.{connect_read, down_read, at_peer_read, rel_read, report_read, line_by, line_read, session_line_read}
use Rattle.line_text.specs.Values.{path_read, ints_read, raw_read, run_read, flat_read, keys_why, value_read, form_read, forms_read, tagged_read, dict_read, pairs_read, pair_read, entry_read}
use Rattle.line_text.specs.Words.{class_read, repl_read, rpc_read}

unfoldable pub lines_on_literals : ⊤
unfolding serde_json_on_literals hex_on_literals chars is_utf8 line_data first_of worded_read four_of setting_read spawn_read custom_spawn_read despawn_read sync_read public_read for_read filter_read set_read op_by op_read word_read text_read bool_read nat_read i64_read i32_read bytes_read array_read two_of three_of two_read three_read list_read object_read key_read optional each_read prop_read sets_read method_read sync_prop_read sync_of node_sync_read scene_sync_read custom_read spawner_read role_by role_read node_read def_read scene_read valid_read scene_line_read peer_read none_of one_of connect_read down_read at_peer_read rel_read report_read line_by line_read session_line_read path_read ints_read raw_read run_read flat_read keys_why value_read form_read forms_read tagged_read dict_read pairs_read pair_read entry_read class_read repl_read rpc_read
lines_on_literals = tt
