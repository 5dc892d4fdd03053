mod Pockets
