use Rattle.print_list.proofs.CodeLaws.{piece_put}
use Rattle.print_list.proofs.writing.push_piece.Goals as goal

pub returns-clause-piece : goal.returns-clause-piece
returns-clause-piece c =
    piece_put c.args.bytes.now.items c.push.new.self.items c.extend_from_slice.new.self.items c.args.kind c.args.piece.now c.in_ok-push.ensures.items c.in_ok-extend_from_slice.ensures.items
